-- Laws of a graph's own calls on its run in a state: what they leave of the whole state.
use Rattle.graph_tables.specs.Answers.{Answer}
use Rattle.std.specs.Prelude.{Ok, Err, ⊤}
use Prim.Native.Nat.{ℕ, ◌≤◌, ◌<◌}
use mathlib.Core.Path.{◌≡◌, sym, ap, ◌∙◌, subst}
use mathlib.Core.List.{List, ◌++◌}
use lib.ListN.{take, drop}
use native.Mathlib.Omega.{arith}
use Rattle.graph_tables.specs.Sizes.{process_room}
use Rattle.graph_tables.specs.RunWords.{run_words}
use Rattle.graph_tables.specs.Sound.{Sound}
use Rattle.graph_tables.specs.declared.handed.Message.{Message}
use Rattle.program_graph.specs.Outcomes.{accepts, values_said}
use Rattle.program_graph.specs.declared.record.ProgramGraphRun.{ProgramGraphRun}
use Rattle.program_graph.specs.Facts.{Accepted}
use Rattle.program_graph.specs.Inner.{run_at, RunOf, Leaves, DidCall, DidSend}
use Rattle.program_graph.specs.Running.{step_of}
use Rattle.program_graph.specs.Messaging.{sent_of, received_of}
use Rattle.program_graph.specs.Written.{words_of}
use Rattle.program_graph.proofs.AnswerLaws.{not_ok}
use Rattle.program_graph.proofs.LeaveLaws.{processes_same}
use Rattle.program_graph.proofs.RunTheorems.{step_refused, sent_refused, received_refused}
use Rattle.program_graph.proofs.WrittenLaws.{leaves_words, words_back}
use Rattle.system_tables.specs.Sizes.{graph_room}
use Rattle.system_tables.specs.Words.{graph_part}
use Rattle.system_state.specs.Layout.{run_start}
use Rattle.system_state.specs.Words.{StateWords, run_part, with_run, queue_part}
use Rattle.system_state.proofs.WithLaws.{with_run_back, with_run_words, with_run_queue}
use Rattle.channel_system.specs.Steps.{run_of, ran_to, left_by}
use Rattle.channel_system.specs.Facts.{Fitting, Ran}

module _ {t s : List ℕ} {g : ℕ} (f : Fitting t s g) where
  -- graph g has words in the state, and its run is one of the graph's
  pub small : g < graph_room
  small = omega (arith, f.known, f.table.graphs)

  pub part_sound : Sound (graph_part t g)
  part_sound = f.table.graph g f.known

  pub part_run : RunOf (graph_part t g) (run_part s g)
  part_run = (f.state.run g f.known).run

  -- it has few processes
  pub few_processes : (run_of s g).processes ≤ process_room
  few_processes = omega (arith, processes_same (graph_part t g) (run_of s g) part_run.formed, part_sound.counts.processes)

  module _ (run : ProgramGraphRun) (after : List ℕ) (leaves : Leaves (graph_part t g) (run_part s g) run after) where
    -- the run that a call leaves stands in the state; a refused call leaves the run that was there, and so the state
    left : (answer : Answer ⊤) → ((Accepted answer → ⊥) → run ≡ run_of s g) → with_run s g after ≡ left_by answer s (ran_to t s g run)
    left (Ok _) back = ap (with_run s g) (leaves_words part_sound leaves)
    left (Err r) back =
        ap (with_run s g)
        (leaves_words part_sound leaves ∙ ap (words_of (graph_part t g) (run_part s g)) (back not_ok) ∙ words_back part_sound part_run)
        ∙ with_run_back s g

    pub ran : (answer : Answer ⊤) → ((Accepted answer → ⊥) → run ≡ run_of s g) → {u : List ℕ} → u ≡ with_run s g after → Ran t s g answer run u
    ran answer back {u} e =
        let words : StateWords u = subst StateWords (sym e) (with_run_words s f.state.words g small after leaves.words) in
        record {
          state = e ∙ left answer back;
          words = words;
          queue = λ q l. ap (λ (x : List ℕ). queue_part x q) e ∙ with_run_queue s f.state.words g small after leaves.words q l;
        }

  -- ---- the run is lent as m words from `at` on, with the words G of the graph
  module _ (G : List ℕ) (at m : ℕ) (graph : G ≡ graph_part t g) (start : at ≡ run_start g) (size : m ≡ run_words) where
    pub lent : Sound G × RunOf G (take m (drop at s))
    lent = rw (graph, size, start) (part_sound, part_run)

    placed : (last : List ℕ) → take at s ++ (last ++ drop m (drop at s)) ≡ with_run s g last
    placed last = rw (size, start)

    -- ---- what the graph's calls leave
    module _ (a : ℕ) (posts : List ℕ) (last : List ℕ) where
      pub ran_step : (word : ℕ) (answer : Answer ⊤)
          → DidCall G (take m (drop at s)) answer last (step_of G (run_at (take m (drop at s))) a posts word)
          → (answer ≡ (step_of (graph_part t g) (run_of s g) a posts word).answer)
          × Ran t s g answer (step_of (graph_part t g) (run_of s g) a posts word).run (take at s ++ (last ++ drop m (drop at s)))
      ran_step word answer d =
          let did : DidCall (graph_part t g) (run_part s g) answer last (step_of (graph_part t g) (run_of s g) a posts word) = rw
          (graph, size, start) at d in (
            did.0,
            ran _ last did.1 answer
                (λ no. step_refused (graph_part t g) (run_of s g) a posts word (λ ok. no (subst Accepted (sym did.0) ok))) (placed last),
          )

      pub ran_receive : (message : Message) (answer : Answer ⊤)
          → DidCall G (take m (drop at s)) answer last (received_of G (run_at (take m (drop at s))) a posts message)
          → (answer ≡ (received_of (graph_part t g) (run_of s g) a posts message).answer)
          × Ran t s g answer (received_of (graph_part t g) (run_of s g) a posts message).run (take at s ++ (last ++ drop m (drop at s)))
      ran_receive message answer d =
          let did : DidCall (graph_part t g) (run_part s g) answer last (received_of (graph_part t g) (run_of s g) a posts message) =
          rw (graph, size, start) at d in (
            did.0,
            ran _ last did.1 answer
                (λ no. received_refused (graph_part t g) (run_of s g) a posts message (λ ok. no (subst Accepted (sym did.0) ok))) (placed last),
          )

      pub ran_send : (word : ℕ) (said : Answer Message)
          → DidSend G (take m (drop at s)) said last (sent_of G (run_at (take m (drop at s))) a posts word)
          → (accepts said ≡ (sent_of (graph_part t g) (run_of s g) a posts word).answer)
          × (values_said said ≡ (sent_of (graph_part t g) (run_of s g) a posts word).message)
          × Ran t s g (accepts said) (sent_of (graph_part t g) (run_of s g) a posts word).run (take at s ++ (last ++ drop m (drop at s)))
      ran_send word said d =
          let did : DidSend (graph_part t g) (run_part s g) said last (sent_of (graph_part t g) (run_of s g) a posts word) = rw
          (graph, size, start) at d in (
            did.answer,
            did.message,
            ran _ last did.words (accepts said)
                (λ no. (sent_refused (graph_part t g) (run_of s g) a posts word (λ ok. no (subst Accepted (sym did.answer) ok))).0) (placed last),
          )
