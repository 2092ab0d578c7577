-- One member of a chain that runs and builds: what it does to a run that fits its table, and to one that its table has outgrown.
use Prim.Native.Nat.{ℕ, zero, suc, ◌+◌, ◌<◌, ◌≤◌}
use mathlib.Core.Path.{◌≡◌, refl, sym, ap, subst, ◌∙◌}
use mathlib.Core.Bool.{Bool, true, false}
use mathlib.Core.List.{List}
use native.Mathlib.Omega.{arith}
use borrow.Author.Tests.{eqb-true, eq-eqb, ltb-true, lt-ltb}
use lib.ListN.{get_or}
use Rattle.laws.proofs.Ladder.{stopped}
use Rattle.laws.proofs.BelowLaws.{and_first, and_rest, and_both, all_kept}
use Rattle.grammar.specs.Slots.{val_of, kind_in}
use Rattle.grammar.specs.Evaluation.{blank}
use Rattle.graph_tables.specs.Words.{variable_count, location_count, kind_at, value_at}
use Rattle.graph_tables.specs.Answers.{answer_number}
use Rattle.graph_tables.specs.Formed.{well_formed}
use Rattle.graph_tables.specs.Sound.{Sound}
use Rattle.graph_tables.proofs.SoundLaws.{sound}
use Rattle.graph_tables.proofs.KeptLaws.{apart, together}
use Rattle.graph_edits.specs.Lists.{variable_at}
use Rattle.graph_builder.specs.Chains.{Call, after, Fits}
use Rattle.graph_builder.specs.Reading.{graph_of}
use Rattle.graph_builder.proofs.KeptParts.{Kept, variable_kept}
use Rattle.graph_builder.proofs.Theorems.{parts_stay, none_fewer, stays_runnable}
use Rattle.program_graph.specs.Facts.{Sized, Accepted}
use Rattle.program_graph.specs.Running.{refused, place_known, var_fits, counts_same, run_formed, fits_table}
use Rattle.program_graph.specs.Running.{transition_of, wait_of}
use Rattle.program_graph.specs.Messaging.{refused_send, send_of, receive_of}
use Rattle.program_graph.specs.RunChains.{RunCall, transition, wait, send, receive, answer_to, run_after}
use Rattle.program_graph.specs.GrowingChains.{widens}
use Rattle.program_graph.specs.declared.record.ProgramGraphRun.{ProgramGraphRun}
use Rattle.program_graph.specs.Outcomes.{RunOutcome, Sent}
use Rattle.program_graph.proofs.RunLaws.{table_formed, run_formed_lem, same_processes, same_variables, same_clocks}
use Rattle.program_graph.proofs.RunChains.{call_keeps, call_refused}
use Rattle.program_graph.proofs.GrowingCounts.{SameCounts, total, counts_stay}

-- a table that is well formed for a run is so for building
pub for_building : (t : List ℕ) → well_formed t false ≡ true → well_formed t true ≡ true
for_building t h = together t (apart t false h)

-- ---- a call on a run that does not fit its table
module _ (t : List ℕ) (run : ProgramGraphRun) where
  -- It answers 32.
  pub bad_answer : (call : RunCall) → fits_table t run ≡ false → answer_number (answer_to t run call) ≡ 32
  unfolding transition_of wait_of send_of receive_of
  bad_answer (transition a posts word) e = ap (λ (s : RunOutcome). answer_number s.answer) (sym (stopped (refused 32 run) _ e))
  bad_answer (wait delta) e = ap (λ (s : RunOutcome). answer_number s.answer) (sym (stopped (refused 32 run) _ e))
  bad_answer (send a posts word) e = ap (λ (s : Sent). answer_number s.answer) (sym (stopped (refused_send 32 run) _ e))
  bad_answer (receive a posts m) e = ap (λ (s : RunOutcome). answer_number s.answer) (sym (stopped (refused 32 run) _ e))

  -- so it gives back the run
  pub bad_returns : (call : RunCall) → fits_table t run ≡ false → run_after t run call ≡ run
  bad_returns call e = call_refused t run call (λ (k : Accepted (answer_to t run call)). omega (arith, k.number, bad_answer call e))

  -- whatever is so of a run, and of what every call makes of one that fits, is so after a call
  pub call_either : (P : ProgramGraphRun → Type 0) (call : RunCall) → P run → (fits_table t run ≡ true → P (run_after t run call))
      → P (run_after t run call)
  call_either P call h k = by (fits_table t run) refl
    where
      by : (b : Bool) → fits_table t run ≡ b → P (run_after t run call)
      by true e = k e
      by false e = subst P (sym (bad_returns call e)) h

  -- its arrays keep their sizes
  pub sized_call : (call : RunCall) → Sized run → Sized (run_after t run call)
  sized_call call z = call_either Sized call z (λ f. (call_keeps t run call f z).1)

-- ---- a building call
-- a variable is of the kind of its value
kind_back : (kind payload : ℕ) → kind < 2 → kind_in (val_of kind payload) ≡ kind
unfolding val_of
kind_back zero payload l = refl
kind_back (suc zero) payload l = refl
kind_back (suc (suc kind)) payload l = absurd (omega arith)

kind_read_lem : (t : List ℕ) → Sound t → (v : ℕ) → v < variable_count t → kind_in (variable_at t v) ≡ kind_at t v
kind_read_lem t s v l = kind_back (kind_at t v) (value_at t v) (s.variable v l).kind

module _ (t : List ℕ) (run : ProgramGraphRun) (call : Call) (fit : Fits call) where
  abbrev u : List ℕ
  u = after t call

  -- One that adds no process, variable or clock keeps a run one of its table's.
  pub build_keeps : fits_table t run ≡ true → widens t call ≡ false → fits_table (after t call) run ≡ true
  unfolding fits_table run_formed counts_same place_known var_fits
  build_keeps f n =
      and_both now
      (and_both
      (and_both (eq-eqb _ _ (same_processes t run r ∙ sym same.processes))
      (and_both (eq-eqb _ _ (same_variables t run r ∙ sym same.variables)) (eq-eqb _ _ (same_clocks t run r ∙ sym same.clocks))))
      (and_both
      (all_kept (place_known t run.places) (place_known u run.places) run.processes
      (λ p l e. lt-ltb (get_or run.places p 0) (location_count u)
      (omega (arith, ltb-true (get_or run.places p 0) (location_count t) e, none_fewer t call fit)))
      (and_first _ _ (and_rest _ _ r)))
      (all_kept (var_fits t run.vars) (var_fits u run.vars) run.variables
      (λ v l e. eq-eqb _ _
      (eqb-true (kind_in (get_or run.vars v blank).value) (kind_at t v) e ∙ sym (kinds v (omega (arith, same_variables t run r)))))
      (and_rest _ _ (and_rest _ _ r)))))
    where
      was : well_formed t false ≡ true
      was = table_formed t run f

      now : well_formed u false ≡ true
      now = stays_runnable t call fit was

      r : run_formed t run ≡ true
      r = run_formed_lem t run f

      same : SameCounts t u
      same = counts_stay t call fit n

      k : Kept (graph_of t) (graph_of u)
      k = parts_stay t call fit

      kinds : (v : ℕ) → v < variable_count t → kind_at u v ≡ kind_at t v
      kinds v l =
          sym (kind_read_lem u (sound u false now) v (omega (arith, l, same.variables)))
          ∙ ap kind_in (variable_kept t u k v l)
          ∙ kind_read_lem t (sound t false was) v l

-- ---- a table that has more processes, variables and clocks than the run
abbrev pub run_total : ProgramGraphRun → ℕ
run_total run = run.processes + run.variables + run.clocks

-- of a run that fits they are as many
pub total_same : (t : List ℕ) (run : ProgramGraphRun) → fits_table t run ≡ true → run_total run ≡ total t
total_same t run f =
    let r : run_formed t run ≡ true = run_formed_lem t run f in
    omega (arith, same_processes t run r, same_variables t run r, same_clocks t run r)

pub outgrown : (t : List ℕ) (run : ProgramGraphRun) → run_total run < total t → fits_table t run ≡ false
outgrown t run l = by (fits_table t run) refl
  where
    by : (b : Bool) → fits_table t run ≡ b → fits_table t run ≡ false
    by true e = absurd (omega (arith, total_same t run e))
    by false e = e

-- no building call takes any away
pub total_grows : (t : List ℕ) (call : Call) → Fits call → total t ≤ total (after t call)
total_grows t call fit = omega (arith, none_fewer t call fit)
