-- A step of a system leaves a state of its table, whatever it answers; and what each kind of step leaves of the state's parts.
use Rattle.std.specs.Prelude.{Err}
use Prim.Native.Nat.{ℕ, ◌+◌, ◌*◌, ◌/◌, ◌%◌, ◌<◌, ◌≤◌}
use mathlib.Core.Path.{◌≡◌, refl, sym, ap, subst, ◌∙◌}
use mathlib.Core.Bool.{Bool, true, false, cond}
use mathlib.Core.List.{List}
use native.Mathlib.Decide.{dec_lt}
use native.Mathlib.Nat.{mul_comm, div-add-mod'}
use native.Mathlib.Omega.{arith}
use borrow.Author.Tests.{ltb-true, leb-true}
use Rattle.laws.specs.Ladder.{unless}
use Rattle.laws.proofs.Tests.{never}
use lib.ListN.{get_or}
use Rattle.grammar.specs.Evaluation.{blank}
use Rattle.grammar.specs.Slots.{FitVal}
use Rattle.graph_tables.specs.Answers.{admitted, answer_number}
use Rattle.graph_tables.specs.RunWords.{RunWords}
use Rattle.graph_tables.specs.Messages.{message_count}
use Rattle.graph_tables.specs.declared.refusals.Refusal.{Refusal}
use Rattle.graph_tables.proofs.NumberLaws.{above_ok}
use Rattle.program_graph.specs.Fits.{RunKept}
use Rattle.program_graph.specs.Inner.{run_at, Leaves}
use Rattle.program_graph.specs.declared.record.ProgramGraphRun.{ProgramGraphRun}
use Rattle.program_graph.specs.Outcomes.{Sent}
use Rattle.program_graph.specs.Written.{words_of}
use Rattle.program_graph.proofs.AnswerLaws.{is_ok}
use Rattle.program_graph.proofs.KeptLaws as kept
use Rattle.program_graph.proofs.SpokenLaws.{Says as SaysOf, send_says}
use Rattle.queues.specs.Layout.{slot_room, QueueWords}
use Rattle.queues.specs.Queues.{stored_of, slots_for, dropped, pushed_all, FitMessage}
use Rattle.queues.specs.Fits.{QueueKept, MessageKept}
use Rattle.queues.proofs.MessageLaws.{slots_width}
use Rattle.queues.proofs.ValueLaws.{first_held}
use Rattle.system_tables.specs.Sizes.{graph_room, channel_room}
use Rattle.system_tables.specs.declared.ids.ChannelCapacity.{ChannelCapacity}
use Rattle.system_tables.specs.declared.ids.ChannelCapacity.TheVariants.{Bounded, Unbounded, Sink}
use Rattle.system_tables.specs.declared.ids.Message.{Message}
use Rattle.system_tables.specs.Words.{graph_count, channel_count, width_of, channel_kinds, capacity_of, graph_part}
use Rattle.system_tables.specs.Ceiling.{ceiling}
use Rattle.system_tables.specs.Sound.{SystemSound}
use Rattle.system_tables.proofs.CeilingLaws.{one_more_fits, unbounded_ceiling}
use Rattle.system_state.specs.Words.{StateWords, time_in, run_part, queue_part, with_queue}
use Rattle.system_state.specs.Fits.{ceiling_at, StateSound}
use Rattle.system_state.proofs.ChannelLaws.{kinds_length, said_kept, said_fits, push_kept, pop_kept, one_message}
use Rattle.system_state.proofs.WithLaws.{with_run_here, with_run_time, with_run_run, with_run_queue, with_run_sound}
use Rattle.system_state.proofs.WithLaws.{with_queue_here, with_queue_time, with_queue_run, with_queue_queue, with_queue_sound}
use Rattle.channel_system.specs.Channels.{send_test}
use Rattle.channel_system.specs.Steps.{locations_of, run_of, ran_to, stores, sent_into, oldest_in, taken_from, Moved, moved_of}
use Rattle.channel_system.proofs.StepLaws.{received_some}
use Rattle.channel_system.proofs.RunWords.{step_words, send_words, receive_words}
use Rattle.channel_system.proofs.StepCases.{sent_on, received_on, stepped_on, PlainFound, SendFound, ReceiveFound, ProbeFound}
use Rattle.channel_system.proofs.StepCases.{step_cases}

-- ---- an open channel has room, or a message
opened : (b : Bool) (r : Refusal) → unless b (Err r) admitted ≡ admitted → b ≡ true
unfolding unless
opened true r e = refl
opened false r e = absurd (above_ok r (ap answer_number e))

module _ (stored width : ℕ) (whole : stored % slots_for width ≡ 0) where
  -- so many whole messages
  messages : stored ≡ slots_for width * (stored / slots_for width)
  messages =
      let e = div-add-mod' stored (slots_for width) in
      let f = mul_comm (slots_for width) (stored / slots_for width) in
      omega (arith, e, f, whole)

  open_room : (c : ChannelCapacity) → stored ≤ ceiling width c → send_test stored width c ≡ admitted → stores c ≡ true
      → stored + slots_for width ≤ ceiling width c
  unfolding send_test
  open_room (Bounded n) low e y =
      let few : stored < n = ltb-true _ _ (opened _ _ e) in
      let m = messages in
      subst (λ (k : ℕ). k + slots_for width ≤ ceiling width (Bounded n)) (sym m)
      (one_more_fits width n (stored / slots_for width) (subst (λ (k : ℕ). k < n) m few))
  open_room Unbounded low e y = by (dec_lt 0 (slots_for width))
    where
      by : Dec (0 < slots_for width) → stored + slots_for width ≤ ceiling width Unbounded
      by (yes some) =
          let room : stored + slots_for width ≤ slot_room = leb-true _ _ (opened _ _ e) in
          omega (arith, unbounded_ceiling width some)
      by (no none) = omega arith
  open_room Sink low e y = never y

-- ---- the parts of a state that an accepted step of graph g leaves
pub record RunLeft (t s : List ℕ) (g : ℕ) (run : ProgramGraphRun) (u : List ℕ) : Type 0 where
  -- a state of the table
  pub sound : StateSound t u
  -- the run of g stands there
  pub reads : run_of u g ≡ run
  -- the other runs and the time are as they were
  pub other : (f : ℕ) → f < graph_room → (f ≡ g → ⊥) → run_part u f ≡ run_part s f
  pub time : time_in u ≡ time_in s

-- every queue is as it was
abbrev pub QueuesLeft : List ℕ → List ℕ → List ℕ → Type 0
QueuesLeft t s u = (q : ℕ) → q < channel_room → queue_part u q ≡ queue_part s q

-- the queue of q is another, the others are as they were
pub record QueueLeft (t s : List ℕ) (q : ℕ) (new : List ℕ) (u : List ℕ) : Type 0 where
  pub here : queue_part u q ≡ new
  pub other : (p : ℕ) → p < channel_room → (p ≡ q → ⊥) → queue_part u p ≡ queue_part s p

module _ {t s : List ℕ} (sound : SystemSound t) (h : StateSound t s) where
  in_graphs : (g : ℕ) → g < graph_count t → g < graph_room
  in_graphs g l = omega (arith, sound.graphs)

  in_channels : (q : ℕ) → q < channel_count t → q < channel_room
  in_channels q l = omega (arith, sound.channels)

  -- a run written
  module _ (g : ℕ) (l : g < graph_count t) {run : ProgramGraphRun}
      (leaves : Leaves (graph_part t g) (run_part s g) run (words_of (graph_part t g) (run_part s g) run))
      (kept : RunKept (graph_part t g) (words_of (graph_part t g) (run_part s g) run)) where
    abbrev new : List ℕ
    new = words_of (graph_part t g) (run_part s g) run

    abbrev size : RunWords new
    size = kept.run.words

    run_left : RunLeft t s g run (ran_to t s g run)
    run_left =
        record {
          sound = with_run_sound sound h g l kept;
          reads = ap run_at (with_run_here s h.words g (in_graphs g l) new size) ∙ leaves.reads;
          other = λ f m other. with_run_run s h.words g (in_graphs g l) new size f m other;
          time = with_run_time s h.words g (in_graphs g l) new size;
        }

    queues_left : QueuesLeft t s (ran_to t s g run)
    queues_left q m = with_run_queue s h.words g (in_graphs g l) new size q m

-- a queue written behind a run
module _ {t s : List ℕ} (sound : SystemSound t) {g : ℕ} {run : ProgramGraphRun} {u : List ℕ} (left : RunLeft t s g run u)
    (l : g < graph_count t) (same : QueuesLeft t s u) (q : ℕ) (k : q < channel_count t) (new : List ℕ)
    (kept : QueueKept new (channel_kinds t q) (ceiling_at t q)) where
  abbrev queue_size : QueueWords new
  queue_size = kept.formed.counted.words

  abbrev words : StateWords u
  words = left.sound.words

  small : q < channel_room
  small = omega (arith, sound.channels)

  run_left_still : RunLeft t s g run (with_queue u q new)
  run_left_still =
      record {
        sound = with_queue_sound sound left.sound q k kept;
        reads = ap run_at (with_queue_run u words q small new queue_size g (omega (arith, sound.graphs))) ∙ left.reads;
        other = λ f m other. with_queue_run u words q small new queue_size f m ∙ left.other f m other;
        time = with_queue_time u words q small new queue_size ∙ left.time;
      }

  queue_left : QueueLeft t s q new (with_queue u q new)
  queue_left =
      record {
        here = with_queue_here u words q small new queue_size;
        other = λ p m other. with_queue_queue u words q small new queue_size p m other ∙ same p m;
      }

-- ---- each case of a step
module _ {t s : List ℕ} (sound : SystemSound t) (h : StateSound t s) (g a : ℕ) (posts : List ℕ) (word : ℕ) where
  abbrev sent : Sent
  sent = sent_on t s g a posts word

  -- a plain step
  module _ (f : PlainFound t s g a posts word) where
    abbrev after : ProgramGraphRun
    after = (stepped_on t s g a posts word).run

    step_leaves : Leaves (graph_part t g) (run_part s g) after (words_of (graph_part t g) (run_part s g) after)
    step_leaves = step_words (sound.graph g f.graph) (h.run g f.graph).run a (locations_of posts) word

    step_kept : RunKept (graph_part t g) (words_of (graph_part t g) (run_part s g) after)
    step_kept = kept.step_kept (sound.graph g f.graph) (h.run g f.graph) a (locations_of posts) word step_leaves

    pub plain_run : RunLeft t s g (stepped_on t s g a posts word).run (ran_to t s g (stepped_on t s g a posts word).run)
    plain_run = run_left sound h g f.graph step_leaves step_kept

    pub plain_queues : QueuesLeft t s (ran_to t s g (stepped_on t s g a posts word).run)
    plain_queues = queues_left sound h g f.graph step_leaves step_kept

  -- a communication that is a send in its graph
  module _ (l : g < graph_count t) where
    send_leaves : Leaves (graph_part t g) (run_part s g) sent.run (words_of (graph_part t g) (run_part s g) sent.run)
    send_leaves = send_words (sound.graph g l) (h.run g l).run a (locations_of posts) word

    send_kept : RunKept (graph_part t g) (words_of (graph_part t g) (run_part s g) sent.run)
    send_kept = kept.send_kept (sound.graph g l) (h.run g l) a (locations_of posts) word send_leaves

    sent_run : RunLeft t s g sent.run (ran_to t s g sent.run)
    sent_run = run_left sound h g l send_leaves send_kept

    sent_queues : QueuesLeft t s (ran_to t s g sent.run)
    sent_queues = queues_left sound h g l send_leaves send_kept

  -- a probe
  module _ (m : Message) (q : ℕ) (f : ProbeFound t s g a posts word m q) where
    pub probe_run : RunLeft t s g (sent_on t s g a posts word).run (ran_to t s g (sent_on t s g a posts word).run)
    probe_run = sent_run f.found.graph

    pub probe_queues : QueuesLeft t s (ran_to t s g (sent_on t s g a posts word).run)
    probe_queues = sent_queues f.found.graph

  -- the queue of a channel holds whole messages
  whole : (q : ℕ) → q < channel_count t → stored_of (queue_part s q) % slots_for (width_of t q) ≡ 0
  whole q k = subst (λ (n : ℕ). stored_of (queue_part s q) % slots_for n ≡ 0) (kinds_length sound q k) (h.queue q k).whole

  -- a send
  module _ (q : ℕ) (f : SendFound t s g a posts word q) where
    abbrev channel : q < channel_count t
    channel = f.found.channel

    abbrev ran : List ℕ
    ran = ran_to t s g sent.run

    said : SaysOf (graph_part t g) a sent.message
    said = send_says (sound.graph g f.found.graph) (h.run g f.found.graph).run a (locations_of posts) word (is_ok f.answer)

    message : MessageKept (channel_kinds t q) sent.message
    message = said_kept sound q channel f.found.says.1 said.message

    pub send_fits_lem : FitMessage (sent_on t s g a posts word).message
    send_fits_lem = said_fits sound q channel f.found.says.1 said

    pub send_wide : (sent_on t s g a posts word).message.count ≡ width_of t q
    send_wide = message.count ∙ kinds_length sound q channel

    pub send_room_lem : stores (capacity_of t q) ≡ true → stored_of (queue_part s q) + slots_for (width_of t q) ≤ ceiling_at t q
    send_room_lem y =
        open_room (stored_of (queue_part s q)) (width_of t q) (whole q channel) (capacity_of t q) (h.queue q channel).low f.found.ready y

    pushed_kept : stores (capacity_of t q) ≡ true
        → QueueKept (pushed_all (queue_part s q) sent.message) (channel_kinds t q) (ceiling_at t q)
    pushed_kept y = push_kept sound q channel h sent.message message send_fits_lem (send_room_lem y)

    abbrev pushed : List ℕ
    pushed = with_queue ran q (pushed_all (queue_part s q) sent.message)

    -- where the channel stores, the message is behind the others
    into : stores (capacity_of t q) ≡ true → sent_into t ran q sent.message ≡ pushed
    unfolding sent_into
    into y =
        ap (λ (b : Bool). cond b (with_queue ran q (pushed_all (queue_part ran q) sent.message)) ran) y
        ∙ ap (λ (r : List ℕ). with_queue ran q (pushed_all r sent.message))
        (sent_queues f.found.graph q (in_channels sound h q channel))

    -- a sink stores nothing
    past : stores (capacity_of t q) ≡ false → sent_into t ran q sent.message ≡ ran
    unfolding sent_into
    past n = ap (λ (b : Bool). cond b (with_queue ran q (pushed_all (queue_part ran q) sent.message)) ran) n

    abbrev sent_state : List ℕ
    sent_state = sent_into t ran q sent.message

    pub send_run : RunLeft t s g (sent_on t s g a posts word).run
        (sent_into t (ran_to t s g (sent_on t s g a posts word).run) q (sent_on t s g a posts word).message)
    send_run = by (stores (capacity_of t q)) refl
      where
        by : (b : Bool) → stores (capacity_of t q) ≡ b → RunLeft t s g sent.run sent_state
        by true y =
            subst (RunLeft t s g sent.run) (sym (into y))
            (run_left_still sound (sent_run f.found.graph) f.found.graph (sent_queues f.found.graph) q channel
            (pushed_all (queue_part s q) sent.message) (pushed_kept y))
        by false n = subst (RunLeft t s g sent.run) (sym (past n)) (sent_run f.found.graph)

    pub send_queue : stores (capacity_of t q) ≡ true
        → QueueLeft t s q (pushed_all (queue_part s q) (sent_on t s g a posts word).message)
        (sent_into t (ran_to t s g (sent_on t s g a posts word).run) q (sent_on t s g a posts word).message)
    send_queue y =
        subst (QueueLeft t s q (pushed_all (queue_part s q) sent.message)) (sym (into y))
        (queue_left sound (sent_run f.found.graph) f.found.graph (sent_queues f.found.graph) q channel
        (pushed_all (queue_part s q) sent.message) (pushed_kept y))

    pub sink_queues : stores (capacity_of t q) ≡ false
        → QueuesLeft t s (sent_into t (ran_to t s g (sent_on t s g a posts word).run) q (sent_on t s g a posts word).message)
    sink_queues n = subst (QueuesLeft t s) (sym (past n)) (sent_queues f.found.graph)

  -- a receive
  module _ (q : ℕ) (f : ReceiveFound t s g a posts word q) where
    abbrev from : q < channel_count t
    from = f.found.channel

    abbrev known : g < graph_count t
    known = f.found.graph

    abbrev got : ProgramGraphRun
    got = (received_on t s g a posts word q).run

    abbrev ran_on : List ℕ
    ran_on = ran_to t s g got

    -- there is a message
    pub receive_some : slots_for (width_of t q) ≤ stored_of (queue_part s q)
    receive_some =
        let some = received_some (stored_of (queue_part s q)) f.found.ready in
        one_message sound q from h (λ (e : stored_of (queue_part s q) ≡ 0). omega arith)

    held : (e : ℕ) → e < message_count (graph_part t g) a → FitVal (get_or (oldest_in t s q).values e blank).value
    held e l =
        first_held (queue_part s q) (width_of t q) receive_some e (omega (arith, f.found.says.1.count, slots_width (width_of t q)))

    receive_leaves : Leaves (graph_part t g) (run_part s g) got (words_of (graph_part t g) (run_part s g) got)
    receive_leaves = receive_words (sound.graph g known) (h.run g known).run a (locations_of posts) (oldest_in t s q) held

    receive_kept : RunKept (graph_part t g) (words_of (graph_part t g) (run_part s g) got)
    receive_kept = kept.receive_kept (sound.graph g known) (h.run g known) a (locations_of posts) (oldest_in t s q) receive_leaves

    dropped_kept : QueueKept (dropped (queue_part s q) (slots_for (width_of t q))) (channel_kinds t q) (ceiling_at t q)
    dropped_kept = pop_kept sound q from h receive_some

    same_queues : QueuesLeft t s ran_on
    same_queues = queues_left sound h g known receive_leaves receive_kept

    out : taken_from t ran_on q ≡ with_queue ran_on q (dropped (queue_part s q) (slots_for (width_of t q)))
    out = ap (λ (r : List ℕ). with_queue ran_on q (dropped r (slots_for (width_of t q)))) (same_queues q (in_channels sound h q from))

    pub receive_run : RunLeft t s g (received_on t s g a posts word q).run
        (taken_from t (ran_to t s g (received_on t s g a posts word q).run) q)
    receive_run =
        subst (RunLeft t s g got) (sym out)
        (run_left_still sound (run_left sound h g known receive_leaves receive_kept) known same_queues q from
        (dropped (queue_part s q) (slots_for (width_of t q))) dropped_kept)

    pub receive_queue : QueueLeft t s q (dropped (queue_part s q) (slots_for (width_of t q)))
        (taken_from t (ran_to t s g (received_on t s g a posts word q).run) q)
    receive_queue =
        subst (QueueLeft t s q (dropped (queue_part s q) (slots_for (width_of t q)))) (sym out)
        (queue_left sound (run_left sound h g known receive_leaves receive_kept) known same_queues q from
        (dropped (queue_part s q) (slots_for (width_of t q))) dropped_kept)

-- ---- the whole step
module _ {t s : List ℕ} (sound : SystemSound t) (h : StateSound t s) where
  -- A step leaves a state of the table, whatever it answers.
  pub moved_sound : (g o a : ℕ) (posts : List ℕ) (word : ℕ) → StateSound t (moved_of t s g o a posts word).state
  moved_sound g o a posts word =
      step_cases t s g a posts word (λ (m : Moved). StateSound t m.state)
      (record {
        refusal = λ r n. h;
        plain = λ f. (plain_run sound h g a posts word f).sound;
        send = λ q f. (send_run sound h g a posts word q f).sound;
        receive = λ q f. (receive_run sound h g a posts word q f).sound;
        probe = λ m q f. (probe_run sound h g a posts word m q f).sound;
      })
      sound o
