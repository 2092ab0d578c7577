-- Laws of a step of a system: from what its parts answer to the whole.
use Rattle.graph_tables.specs.Answers.{Answer, admitted}
use Rattle.std.specs.Prelude.{Ok, Err, ⊤}
use Prim.Native.Nat.{ℕ, ◌≤◌, ◌<◌}
use mathlib.Core.Path.{◌≡◌, refl, sym, ap, ◌∙◌, subst}
use mathlib.Core.Bool.{Bool, true, false, cond}
use mathlib.Core.List.{List}
use native.Mathlib.Omega.{arith}
use lib.Dec.{ltb}
use borrow.Author.Tests.{ltb-true}
use Rattle.laws.specs.Ladder.{unless}
use Rattle.graph_tables.specs.Sizes.{message_room}
use Rattle.graph_tables.specs.Words.{action_count}
use Rattle.graph_tables.specs.declared.refusals.Refusal.{Refusal}
use Rattle.graph_tables.specs.declared.handed.Message as Values
use Rattle.graph_checks.specs.Checks.{refused_by}
use Rattle.program_graph.specs.declared.record.ProgramGraphRun.{ProgramGraphRun}
use Rattle.program_graph.specs.Messaging.{sent_of}
use Rattle.program_graph.proofs.AnswerLaws.{is_ok}
use Rattle.program_graph.proofs.SpokenLaws.{send_says}
use Rattle.queues.specs.Queues.{stored_of, slots_for, Counted}
use Rattle.system_tables.specs.Words.{channel_count, width_of, graph_part, communication_of}
use Rattle.system_tables.proofs.CommunicationLaws.{message_says}
use Rattle.system_tables.specs.declared.ids.Channel.{Channel}
use Rattle.system_tables.specs.declared.ids.Message.{Message}
use Rattle.system_tables.specs.declared.ids.Message.TheVariants.{Send}
use Rattle.system_tables.specs.declared.ids.Communication.TheVariants.{Plain, On}
use Rattle.system_state.specs.Words.{queue_part}
use Rattle.channel_system.specs.declared.answers.Event.{Event}
use Rattle.channel_system.specs.Channels.{receive_test}
use Rattle.channel_system.specs.Steps.{run_of, ran_to}
use Rattle.channel_system.specs.Steps.{left_by, told_if}
use Rattle.channel_system.specs.Steps.{spoken_by}
use Rattle.channel_system.specs.Facts.{Fitting, Speaks, Ran, DidMove}
use Rattle.channel_system.proofs.RunLaws.{part_sound, part_run}
use Rattle.channel_system.proofs.TransferLaws.{queue_small, queue_counted, message_stored}

-- ---- what the graph's call answered decides what is left
pub ran_state : {t s u : List ℕ} {g : ℕ} {answer d : Answer ⊤} {run : ProgramGraphRun} → Ran t s g answer run u → answer ≡ d
    → u ≡ left_by d s (ran_to t s g run)
ran_state {t} {s} {g = g} {run = run} h e = h.state ∙ ap (λ (c : Answer ⊤). left_by c s (ran_to t s g run)) e

-- it was refused: the state that came in; it was accepted: the run is there
pub ran_back : {t s u : List ℕ} {g : ℕ} {answer : Answer ⊤} {run : ProgramGraphRun} {r : Refusal} → Ran t s g answer run u
    → answer ≡ Err r → u ≡ s
ran_back h e = ran_state h e

pub ran_on_lem : {t s u : List ℕ} {g : ℕ} {answer : Answer ⊤} {run : ProgramGraphRun} → Ran t s g answer run u → answer ≡ admitted
    → u ≡ ran_to t s g run
ran_on_lem h e = ran_state h e

module _ {d : Answer ⊤} (g : ℕ) (s : List ℕ) (e : Event) (u : List ℕ) {x : Answer Event} {last : List ℕ} where
  pub told_refused : {r : Refusal} → d ≡ Err r → x ≡ Err r → last ≡ s → DidMove x last (told_if d g s e u)
  told_refused h told state = rw h (told, state)

  pub told_accepted : d ≡ admitted → x ≡ Ok e → last ≡ u → DidMove x last (told_if d g s e u)
  told_accepted h told state = rw h (told, state)

-- ---- what an action says
-- an action that is on a channel is one of the graph's
pub spoken_speaks : (t : List ℕ) (g a : ℕ) (m : Message) (q : Channel) → spoken_by t g a ≡ On m q → Speaks t g a m q.0
spoken_speaks t g a m q h = by (ltb a (action_count (graph_part t g))) refl h
  where
    by : (b : Bool) → ltb a (action_count (graph_part t g)) ≡ b → cond b (communication_of t g a) Plain ≡ On m q → Speaks t g a m q.0
    by true e f = record { action = ltb-true _ _ e; word = f }
    by false e f = let z : ◌≡◌ {A = ℕ} 0 1 = cc in absurd (omega arith)

pub speaks_channel : {t s : List ℕ} {g a q : ℕ} {m : Message} → Fitting t s g → Speaks t g a m q → q < channel_count t
speaks_channel {g = g} {a = a} {q = q} {m = m} f h =
    (message_says (f.table.communication g a f.known h.action) m (record { 0 = q }) h.word).0

-- the queue is as it was while the run is written
module _ {t s u : List ℕ} {g q : ℕ} {answer : Answer ⊤} {run : ProgramGraphRun} (f : Fitting t s g) (l : q < channel_count t)
    (ran : Ran t s g answer run u) where
  queue_stays : queue_part u q ≡ queue_part s q
  queue_stays = ran.queue q (queue_small f.table f.state q l)

  pub counted_still : Counted (queue_part u q)
  counted_still = subst Counted (sym queue_stays) (queue_counted f.table f.state q l)

  pub stored_still : 0 < stored_of (queue_part s q) → slots_for (width_of t q) ≤ stored_of (queue_part u q)
  stored_still some =
      subst (λ (x : List ℕ). slots_for (width_of t q) ≤ stored_of x) (sym queue_stays) (message_stored f.table f.state q l some)

module _ {t s : List ℕ} {g a q : ℕ} (f : Fitting t s g) where
  -- an accepted send has as many values as its channel is wide
  pub few_values : Speaks t g a Send q → (posts : List ℕ) (word : ℕ) {answer : Answer ⊤} {message : Values.Message} → answer ≡ admitted
      → answer ≡ (sent_of (graph_part t g) (run_of s g) a posts word).answer
      → message ≡ (sent_of (graph_part t g) (run_of s g) a posts word).message
      → message.count ≤ message_room
  few_values h posts word {answer} {message} ok e same =
      let says = (message_says (f.table.communication g a f.known h.action) Send (record { 0 = q }) h.word).1 in
      let said = send_says (part_sound f) (part_run f) a posts word (is_ok (sym e ∙ ok)) in
      omega (
        arith,
        ap (λ (m : Values.Message). m.count) same,
        said.message.count,
        says.1.count,
        (f.table.channel q
            (speaks_channel f h)).width,
      )

-- ---- a receive that its channel lets through finds something
some_stored : (stored : ℕ) (b : Bool) → ltb 0 stored ≡ b → unless b (refused_by 21) admitted ≡ admitted → 0 < stored
unfolding unless
some_stored stored true e f = ltb-true 0 stored e
some_stored stored false e f = let z : ◌≡◌ {A = ℕ} 0 1 = cc in absurd (omega arith)

pub received_some : (stored : ℕ) → receive_test stored ≡ admitted → 0 < stored
unfolding receive_test
received_some stored h = some_stored stored (ltb 0 stored) refl h
