-- From a fresh state, after any calls, every invariant of every occupied location of every graph holds; and during a wait that is
-- accepted they hold at every instant.
use Prim.Native.Nat.{ℕ, ◌<◌, ◌≤◌}
use mathlib.Core.Path.{◌≡◌, sym, ap, subst}
use mathlib.Core.Bool.{true, false}
use mathlib.Core.List.{List}
use native.Mathlib.Decide.{ℕ_discrete}
use native.Mathlib.Omega.{arith}
use Rattle.program_graph.specs.declared.record.ProgramGraphRun.{ProgramGraphRun}
use Rattle.program_graph.specs.Outcomes.{RunOutcome, Sent}
use Rattle.program_graph.specs.Facts.{Holding}
use Rattle.program_graph.specs.Inner.{run_at}
use Rattle.program_graph.specs.Running.{later}
use Rattle.program_graph.specs.RunChains as graph
use Rattle.program_graph.proofs.AnswerLaws.{is_ok}
use Rattle.program_graph.proofs.RunChains.{call_holds}
use Rattle.program_graph.proofs.RunTheorems.{wait_holds_throughout}
use Rattle.system_tables.specs.Words.{graph_count, graph_part}
use Rattle.system_tables.specs.Sound.{SystemSound}
use Rattle.system_tables.specs.Formed.{system_formed}
use Rattle.system_state.specs.Words.{StateWords}
use Rattle.system_state.specs.Fits.{StateSound}
use Rattle.system_state.specs.Fresh.{fresh_state}
use Rattle.system_state.proofs.FreshParts.{fresh_state_holding}
use Rattle.channel_system.specs.Steps.{locations_of, run_of, oldest_in, Moved}
use Rattle.channel_system.specs.Waits.{Passed, wait_of}
use Rattle.channel_system.specs.Told.{waited_number}
use Rattle.channel_system.specs.Chains.{Call, transition, wait, read, state_after, state_after_all}
use Rattle.channel_system.proofs.StepCases.{stepped_on, sent_on, received_on, step_cases}
use Rattle.channel_system.proofs.WaitCases.{WaitFound, graph_fits, wait_leaves, wait_cases}
use Rattle.channel_system.proofs.SoundCalls.{RunLeft, plain_run, probe_run, send_run, receive_run}
use Rattle.channel_system.proofs.SystemChains.{formed_sound, step_inner, wait_inner, chain_keeps, chain_state, fresh_is_sound}
use Rattle.channel_system.proofs.GraphSide.{run_sized, step_as_lem, send_as, receive_as, wait_as}

-- the invariants of every graph hold
abbrev AllHold : List ℕ → List ℕ → Type 0
AllHold t s = (g : ℕ) → g < graph_count t → Holding (graph_part t g) (run_of s g)

module _ (t : List ℕ) (formed : system_formed t false ≡ true) (s : List ℕ) (h : StateSound t s) (all : AllHold t s) where
  abbrev sound : SystemSound t
  sound = formed_sound t formed

  -- a step of graph g leaves the others, and a run of g on which they hold
  one_graph : (g : ℕ) {run : ProgramGraphRun} {u : List ℕ} → RunLeft t s g run u → (g < graph_count t → Holding (graph_part t g) run)
      → AllHold t u
  one_graph g {run} {u} left here f l = by (ℕ_discrete f g)
    where
      by : Dec (f ≡ g) → Holding (graph_part t f) (run_of u f)
      by (yes e) =
          subst (λ (k : ℕ). Holding (graph_part t k) (run_of u k)) (sym e)
          (subst (Holding (graph_part t g)) (sym left.reads) (here (subst (λ (k : ℕ). k < graph_count t) e l)))
      by (no other) = subst (Holding (graph_part t f)) (sym (ap run_at (left.other f (omega (arith, sound.graphs)) other))) (all f l)

  module _ (g a : ℕ) (posts : List ℕ) (word : ℕ) (l : g < graph_count t) where
    step_holds : Holding (graph_part t g) (stepped_on t s g a posts word).run
    step_holds =
        subst (λ (x : RunOutcome). Holding (graph_part t g) x.run) (step_as_lem t formed s h g l a (locations_of posts) word)
        (call_holds (graph_part t g) (run_of s g) (graph.transition a (locations_of posts) word) (run_sized t formed s h g l) (all g l))

    send_holds : Holding (graph_part t g) (sent_on t s g a posts word).run
    send_holds =
        subst (λ (x : Sent). Holding (graph_part t g) x.run) (send_as t formed s h g l a (locations_of posts) word)
        (call_holds (graph_part t g) (run_of s g) (graph.send a (locations_of posts) word) (run_sized t formed s h g l) (all g l))

    receive_holds : (q : ℕ) → Holding (graph_part t g) (received_on t s g a posts word q).run
    receive_holds q =
        subst (λ (x : RunOutcome). Holding (graph_part t g) x.run)
        (receive_as t formed s h g l a (locations_of posts) (oldest_in t s q))
        (call_holds (graph_part t g) (run_of s g) (graph.receive a (locations_of posts) (oldest_in t s q)) (run_sized t formed s h g l)
        (all g l))

  -- an accepted wait of a graph
  module _ (delta : ℕ) (f : WaitFound t s delta) (g : ℕ) (l : g < graph_count t) where
    later_holds : Holding (graph_part t g) (later (run_of s g) delta)
    later_holds =
        subst (λ (x : RunOutcome). Holding (graph_part t g) x.run) (wait_as t formed s h g l delta (graph_fits sound h f g l) (f.holds g l))
        (call_holds (graph_part t g) (run_of s g) (graph.wait delta) (run_sized t formed s h g l) (all g l))

    throughout : (d : ℕ) → d ≤ delta → Holding (graph_part t g) (later (run_of s g) d)
    throughout =
        wait_holds_throughout (graph_part t g) (run_of s g) delta
        (is_ok (ap (λ (x : RunOutcome). x.answer) (wait_as t formed s h g l delta (graph_fits sound h f g l) (f.holds g l))))
        (run_sized t formed s h g l) (all g l)

  call_holds_all : (call : Call) → AllHold t (state_after t s call)
  call_holds_all (transition g o a posts word) =
      subst (λ (m : Moved). AllHold t m.state) (sym (step_inner t formed s h g o a posts word))
      (step_cases t s g a posts word (λ (m : Moved). AllHold t m.state)
      (record {
        refusal = λ r n. all;
        plain = λ f. one_graph g (plain_run sound h g a posts word f) (step_holds g a posts word);
        send = λ q f. one_graph g (send_run sound h g a posts word q f) (send_holds g a posts word);
        receive = λ q f. one_graph g (receive_run sound h g a posts word q f) (λ l. receive_holds g a posts word l q);
        probe = λ m q f. one_graph g (probe_run sound h g a posts word m q f) (send_holds g a posts word);
      })
      sound o)
  call_holds_all (wait delta) =
      subst (λ (p : Passed). AllHold t p.state) (sym (wait_inner t formed s h delta))
      (wait_cases (λ (p : Passed). AllHold t p.state) t s delta all (λ g. all)
      (λ f g l. subst (Holding (graph_part t g)) (sym ((wait_leaves sound h f).run g l)) (later_holds delta f g l)))
  call_holds_all (read r) = all

  -- during an accepted wait
  wait_throughout : (delta : ℕ) → waited_number (wait_of t s delta).answer ≡ 0 → (g : ℕ) → g < graph_count t → (d : ℕ) → d ≤ delta
      → Holding (graph_part t g) (later (run_of s g) d)
  wait_throughout delta =
      subst
      (λ (p : Passed). waited_number p.answer ≡ 0 → (g : ℕ) → g < graph_count t → (d : ℕ) → d ≤ delta
      → Holding (graph_part t g) (later (run_of s g) d))
      (sym (wait_inner t formed s h delta))
      (wait_cases
      (λ (p : Passed). waited_number p.answer ≡ 0 → (g : ℕ) → g < graph_count t → (d : ℕ) → d ≤ delta
      → Holding (graph_part t g) (later (run_of s g) d))
      t s delta (λ e. absurd (omega arith)) (λ g e. absurd (omega arith)) (λ f e g l. throughout delta f g l))

-- ---- from a fresh state
module _ (t : List ℕ) (formed : system_formed t false ≡ true) (s : List ℕ) (words : StateWords s) where
  -- From a fresh state, after any calls, every invariant of every occupied location of every graph holds.
  pub chain_invariants : (calls : List Call) (g : ℕ) → g < graph_count t
      → Holding (graph_part t g) (run_of (state_after_all t (fresh_state t s) calls) g)
  chain_invariants calls =
      chain_keeps t formed (AllHold t) (λ u h all call. call_holds_all t formed u h all call) (fresh_state t s)
      (fresh_is_sound t formed s words) (λ g l. fresh_state_holding t (formed_sound t formed) s words g l) calls

  -- And at every instant of a wait that is then accepted: d is any time from its start to its end.
  pub chain_throughout : (calls : List Call) (delta : ℕ)
      → waited_number (wait_of t (state_after_all t (fresh_state t s) calls) delta).answer ≡ 0
      → (g : ℕ) → g < graph_count t → (d : ℕ) → d ≤ delta
      → Holding (graph_part t g) (later (run_of (state_after_all t (fresh_state t s) calls) g) d)
  chain_throughout calls delta =
      wait_throughout t formed (state_after_all t (fresh_state t s) calls) (chain_state t formed s words calls) (chain_invariants calls) delta
