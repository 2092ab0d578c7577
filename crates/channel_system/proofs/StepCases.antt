-- A step of a system by cases: it is refused, with a number other than 32, and leaves the state; or it is a plain step, a send, a receive
-- or a probe that its graph and its channel accept.
use Rattle.graph_tables.specs.Answers.{Answer, admitted}
use Rattle.std.specs.Prelude.{Ok, Err, ⊤}
use Prim.Native.Nat.{ℕ, ◌<◌, ◌≤◌}
use mathlib.Core.Path.{◌≡◌, refl, sym, subst}
use mathlib.Core.Bool.{Bool}
use mathlib.Core.List.{List}
use native.Mathlib.Decide.{dec_lt}
use native.Mathlib.Omega.{arith}
use lib.Dec.{eqb}
use borrow.Author.Tests.{ltb-true}
use Rattle.laws.specs.Ladder.{unless}
use Rattle.laws.proofs.Ladder.{rung}
use Rattle.graph_tables.specs.Words.{action_count, epsilon}
use Rattle.graph_tables.specs.Refusals.{number_of, refusal}
use Rattle.graph_tables.specs.declared.refusals.Refusal.{Refusal}
use Rattle.graph_tables.specs.declared.handed.Message as Values
use Rattle.run_steps.specs.Messages.{no_message}
use Rattle.program_graph.specs.declared.record.ProgramGraphRun.{ProgramGraphRun}
use Rattle.program_graph.specs.Outcomes.{RunOutcome, Sent}
use Rattle.program_graph.specs.Facts.{Not}
use Rattle.program_graph.specs.Running.{refused, autonomous_of, plain_of, acted_of, step_of}
use Rattle.program_graph.specs.Messaging.{refused_send, said_of, sent_of, heard_of, received_of}
use Rattle.program_graph.proofs.AnswerLaws.{skip}
use Rattle.program_graph.proofs.RunLaws.{either_way}
use Rattle.queues.specs.Queues.{stored_of}
use Rattle.system_tables.specs.declared.ids.ChannelCapacity.{ChannelCapacity}
use Rattle.system_tables.specs.declared.ids.ChannelCapacity.TheVariants.{Bounded, Unbounded, Sink}
use Rattle.system_tables.specs.declared.ids.Message.{Message}
use Rattle.system_tables.specs.declared.ids.Message.TheVariants.{Send, Receive, ProbeEmptyQueue, ProbeFullQueue}
use Rattle.system_tables.specs.declared.ids.Communication.{Communication}
use Rattle.system_tables.specs.declared.ids.Communication.TheVariants.{Plain, On}
use Rattle.system_tables.specs.Sizes.{empty_message}
use Rattle.system_tables.specs.Words.{graph_count, channel_count, width_of, capacity_of, graph_part, communication_of, message_word}
use Rattle.system_tables.specs.Sound.{SystemSound}
use Rattle.system_tables.proofs.CommunicationLaws.{Says, message_says}
use Rattle.system_state.specs.Words.{queue_part}
use Rattle.channel_system.specs.Channels.{send_test, receive_test, empty_test, full_test, reached, step_test}
use Rattle.channel_system.specs.Steps.{locations_of, run_of, ran_to, sent_into, oldest_in, taken_from, Moved, no_event, event_of}
use Rattle.channel_system.specs.Steps.{told_if, refused_with, refused_step, plain_step, send_step, receive_step, probe_step, message_step}
use Rattle.channel_system.specs.Steps.{open_if, channel_answer, step_as, spoken_by, moved_of}
use Rattle.channel_system.specs.declared.answers.Event.{Event}
use Rattle.channel_system.proofs.SpokenLaws.{spoken_none, spoken_some}

-- ---- no test of a graph or of a channel answers 32
module _ (t : List ℕ) (run : ProgramGraphRun) where
  step_known : (a : ℕ) (posts : List ℕ) (word : ℕ) → Not 32 (step_of t run a posts word).answer
  unfolding step_of autonomous_of acted_of plain_of
  step_known a posts word =
      let answer : RunOutcome → (Answer ⊤) = λ s. s.answer in
      skip answer 32 _ (refused 7 run) _ (λ e. omega arith)
      (skip answer 32 _ (refused 3 run) _ (λ e. omega arith)
      (either_way (λ (s : RunOutcome). Not 32 s.answer) (eqb a epsilon) _ _
      (λ q. skip answer 32 _ (refused 8 run) _ (λ e. omega arith)
      (λ e. omega arith))
      (λ q. skip answer 32 _ (refused 1 run) _ (λ e. omega arith)
      (skip answer 32 _ (refused 13 run) _ (λ e. omega arith)
      (skip answer 32 _ (refused 8 run) _ (λ e. omega arith)
      (skip answer 32 _ (refused 26 run) _ (λ e. omega arith)
      (λ e. omega arith)))))))

  send_known : (a : ℕ) (posts : List ℕ) (word : ℕ) → Not 32 (sent_of t run a posts word).answer
  unfolding sent_of said_of
  send_known a posts word =
      let answer : Sent → (Answer ⊤) = λ s. s.answer in
      skip answer 32 _ (refused_send 14 run) _ (λ e. omega arith)
      (skip answer 32 _ (refused_send 7 run) _ (λ e. omega arith)
      (skip answer 32 _ (refused_send 8 run) _ (λ e. omega arith)
      (skip answer 32 _ (refused_send 14 run) _ (λ e. omega arith)
      (skip answer 32 _ (refused_send 26 run) _ (λ e. omega arith)
      (λ e. omega arith)))))

  receive_known : (a : ℕ) (posts : List ℕ) (m : Values.Message) → Not 32 (received_of t run a posts m).answer
  unfolding received_of heard_of
  receive_known a posts m =
      let answer : RunOutcome → (Answer ⊤) = λ s. s.answer in
      skip answer 32 _ (refused 15 run) _ (λ e. omega arith)
      (skip answer 32 _ (refused 7 run) _ (λ e. omega arith)
      (skip answer 32 _ (refused 8 run) _ (λ e. omega arith)
      (skip answer 32 _ (refused 15 run) _ (λ e. omega arith)
      (skip answer 32 _ (refused 5 run) _ (λ e. omega arith)
      (λ e. omega arith)))))

one_test : (b : Bool) (r : Refusal) → (number_of r ≡ 32 → ⊥) → (d : Answer ⊤) → Not 32 d → Not 32 (unless b (Err r) d)
one_test b r n d h = rung (Not 32) b (Err r) d n (λ e. h)

send_test_lem : (stored width : ℕ) (c : ChannelCapacity) → Not 32 (send_test stored width c)
unfolding send_test
send_test_lem stored width (Bounded n) = one_test _ (refusal 20) (λ e. omega arith) admitted (λ e. omega arith)
send_test_lem stored width Unbounded = one_test _ (refusal 27) (λ e. omega arith) admitted (λ e. omega arith)
send_test_lem stored width Sink = λ e. omega arith

reached_test : (stored : ℕ) (c : ChannelCapacity) → Not 32 (reached stored c)
reached_test stored (Bounded n) = one_test _ (refusal 23) (λ e. omega arith) admitted (λ e. omega arith)
reached_test stored Unbounded = λ e. omega arith
reached_test stored Sink = λ e. omega arith

channel_test : (m : Message) (stored width : ℕ) (c : ChannelCapacity) → Not 32 (step_test m stored width c)
unfolding receive_test empty_test full_test
channel_test Send stored width c = send_test_lem stored width c
channel_test Receive stored width c = one_test _ (refusal 21) (λ e. omega arith) admitted (λ e. omega arith)
channel_test ProbeEmptyQueue stored width c =
    one_test _ (refusal 24) (λ e. omega arith) _ (one_test _ (refusal 22) (λ e. omega arith) admitted (λ e. omega arith))
channel_test ProbeFullQueue stored width c = one_test _ (refusal 24) (λ e. omega arith) _ (reached_test stored c)

-- ---- the cases
-- accepted, with this event and this state
abbrev pub accepted_with : Event → List ℕ → Moved
accepted_with e u = record { told = record { answer = admitted; event = e }; state = u }

-- the posts of all graphs are those of graph g: its call sees its own locations
module _ (t s : List ℕ) (g a : ℕ) (posts : List ℕ) (word : ℕ) where
  abbrev G : List ℕ
  G = graph_part t g

  abbrev run : ProgramGraphRun
  run = run_of s g

  -- the graph's own calls
  abbrev pub stepped_on : RunOutcome
  stepped_on = step_of (graph_part t g) (run_of s g) a (locations_of posts) word

  abbrev pub sent_on : Sent
  sent_on = sent_of (graph_part t g) (run_of s g) a (locations_of posts) word

  abbrev pub received_on : ℕ → RunOutcome
  received_on q = received_of (graph_part t g) (run_of s g) a (locations_of posts) (oldest_in t s q)

  -- what an accepted plain step found
  pub record PlainFound : Type 0 where
    pub graph : g < graph_count t
    pub spoken : spoken_by t g a ≡ Plain
    pub answer : stepped_on.answer ≡ admitted

  -- what an accepted communication on channel q found before its graph's call
  pub record ChannelFound (m : Message) (q : ℕ) : Type 0 where
    pub graph : g < graph_count t
    pub action : a < action_count (graph_part t g)
    pub spoken : spoken_by t g a ≡ On m (record { 0 = q })
    pub channel : q < channel_count t
    pub says : Says t q (graph_part t g) a m
    pub ready : channel_answer t s q m ≡ admitted

  pub record SendFound (q : ℕ) : Type 0 where
    pub found : ChannelFound Send q
    pub answer : sent_on.answer ≡ admitted

  pub record ReceiveFound (q : ℕ) : Type 0 where
    pub found : ChannelFound Receive q
    pub answer : (received_on q).answer ≡ admitted

  pub record ProbeFound (m : Message) (q : ℕ) : Type 0 where
    pub probe : empty_message ≤ message_word m
    pub found : ChannelFound m q
    pub answer : sent_on.answer ≡ admitted

  -- something that holds in each of the cases
  pub record InEach (P : Moved → Type 0) : Type 0 where
    pub refusal : (r : Refusal) → (number_of r ≡ 32 → ⊥) → P (refused_with r g s)
    pub plain : PlainFound → P (accepted_with (no_event g) (ran_to t s g stepped_on.run))
    pub send : (q : ℕ) → SendFound q
        → P (accepted_with (event_of g Send q sent_on.message) (sent_into t (ran_to t s g sent_on.run) q sent_on.message))
    pub receive : (q : ℕ) → ReceiveFound q
        → P (accepted_with (event_of g Receive q (oldest_in t s q)) (taken_from t (ran_to t s g (received_on q).run) q))
    pub probe : (m : Message) (q : ℕ) → ProbeFound m q → P (accepted_with (event_of g m q no_message) (ran_to t s g sent_on.run))

  module _ (P : Moved → Type 0) (each : InEach P) where
    -- what the graph's call answers
    told : (d : Answer ⊤) (e : Event) (u : List ℕ) → Not 32 d → (d ≡ admitted → P (accepted_with e u)) → P (told_if d g s e u)
    told (Ok _) e u n h = h refl
    told (Err r) e u n h = each.refusal r n

    -- what the channel answers
    opened : (d : Answer ⊤) (rest : Moved) → Not 32 d → (d ≡ admitted → P rest) → P (open_if d g s rest)
    opened (Ok _) rest n h = h refl
    opened (Err r) rest n h = each.refusal r n

    plain_case : g < graph_count t → spoken_by t g a ≡ Plain → P (plain_step t s g a (locations_of posts) word)
    unfolding plain_step
    plain_case l c =
        told stepped_on.answer _ _ (step_known G run a (locations_of posts) word)
        (λ e. each.plain (record { graph = l; spoken = c; answer = e }))

    message_case : (m : Message) (q : ℕ) → ChannelFound m q → P (message_step t s g a (locations_of posts) word q m)
    unfolding send_step receive_step probe_step
    message_case Send q f =
        told sent_on.answer _ _ (send_known G run a (locations_of posts) word) (λ e. each.send q (record { found = f; answer = e }))
    message_case Receive q f =
        told (received_on q).answer _ _ (receive_known G run a (locations_of posts) (oldest_in t s q))
        (λ e. each.receive q (record { found = f; answer = e }))
    message_case ProbeEmptyQueue q f =
        told sent_on.answer _ _ (send_known G run a (locations_of posts) word)
        (λ e. each.probe ProbeEmptyQueue q (record { probe = omega arith; found = f; answer = e }))
    message_case ProbeFullQueue q f =
        told sent_on.answer _ _ (send_known G run a (locations_of posts) word)
        (λ e. each.probe ProbeFullQueue q (record { probe = omega arith; found = f; answer = e }))

    module _ (sound : SystemSound t) where
      spoken_case : g < graph_count t → a < action_count (graph_part t g) → (c : Communication) → communication_of t g a ≡ c
          → spoken_by t g a ≡ c → P (step_as t s g a (locations_of posts) word c)
      spoken_case l k Plain e f = plain_case l f
      spoken_case l k (On m q) e f =
          let says = message_says (sound.communication g a l k) m q e in
          opened (channel_answer t s q.0 m) (message_step t s g a (locations_of posts) word q.0 m)
          (channel_test m (stored_of (queue_part s q.0)) (width_of t q.0) (capacity_of t q.0))
          (λ o. message_case m q.0 (record { graph = l; action = k; spoken = f; channel = says.0; says = says.1; ready = o }))

      -- is so of the step
      pub step_cases : (o : ℕ) → P (moved_of t s g o a posts word)
      unfolding moved_of
      step_cases o =
          rung P _ (refused_step 17 g s) _ (each.refusal (refusal 17) (λ e. omega arith))
          (λ l. rung P _ (refused_step 18 g s) _ (each.refusal (refusal 18) (λ e. omega arith))
          (λ y. rung P _ (refused_step 19 g s) _ (each.refusal (refusal 19) (λ e. omega arith))
          (λ z. by (ltb-true _ _ l) (dec_lt a (action_count G)))))
        where
          by : g < graph_count t → Dec (a < action_count G) → P (step_as t s g a (locations_of posts) word (spoken_by t g a))
          by l (yes k) =
              let f = spoken_some t g a k in
              subst (λ (c : Communication). P (step_as t s g a (locations_of posts) word c)) f
              (spoken_case l k (communication_of t g a) refl (sym f))
          by l (no n) =
              let f = spoken_none t g a (omega arith) in
              subst (λ (c : Communication). P (step_as t s g a (locations_of posts) word c)) f (plain_case l (sym f))
