-- What a run that is one of its table's says: its counts, its places and its room; and a choice by its test.
use Prim.Native.Nat.{ℕ, ◌≤◌, ◌<◌}
use mathlib.Core.Path.{◌≡◌, refl, sym, ap, ◌∙◌}
use mathlib.Core.Bool.{Bool, true, false, cond}
use mathlib.Core.List.{List}
use native.Mathlib.Omega.{arith}
use lib.ListN.{length, get_or}
use borrow.Author.Tests.{eqb-true, ltb-true}
use Rattle.laws.proofs.BelowLaws.{and_first, and_rest, all_at}
use Rattle.graph_tables.specs.Sizes.{process_room, variable_room, clock_room}
use Rattle.graph_tables.specs.Words.{variable_count, clock_count, location_count, action_count, process_count, action_kind}
use Rattle.graph_tables.specs.Formed.{well_formed}
use Rattle.graph_tables.specs.Sound.{Sound}
use Rattle.graph_tables.proofs.SoundLaws.{sound}
use Rattle.run_steps.specs.Steps.{is_kind}
use Rattle.program_graph.specs.Facts.{Sized}
use Rattle.program_graph.specs.Running.{place_known, counts_same, run_formed, fits_table}
use Rattle.program_graph.specs.declared.record.ProgramGraphRun.{ProgramGraphRun}

module _ (t : List ℕ) (run : ProgramGraphRun) where
  -- ---- the table and the run of a pair that fits
  pub table_formed : fits_table t run ≡ true → well_formed t false ≡ true
  unfolding fits_table
  table_formed h = and_first _ _ h

  pub run_formed_lem : fits_table t run ≡ true → run_formed t run ≡ true
  unfolding fits_table
  run_formed_lem h = and_rest _ _ h

  pub fitting : fits_table t run ≡ true → Sound t × (run_formed t run ≡ true)
  fitting h = (sound t false (table_formed h), run_formed_lem h)

  -- ---- its counts are the table's
  pub same_processes : run_formed t run ≡ true → run.processes ≡ process_count t
  unfolding run_formed counts_same
  same_processes h = eqb-true _ _ (and_first _ _ (and_first _ _ h))

  pub same_variables : run_formed t run ≡ true → run.variables ≡ variable_count t
  unfolding run_formed counts_same
  same_variables h = eqb-true _ _ (and_first _ _ (and_rest _ _ (and_first _ _ h)))

  pub same_clocks : run_formed t run ≡ true → run.clocks ≡ clock_count t
  unfolding run_formed counts_same
  same_clocks h = eqb-true _ _ (and_rest _ _ (and_rest _ _ (and_first _ _ h)))

  pub few_processes : Sound t → run_formed t run ≡ true → run.processes ≤ process_room
  few_processes s h = omega (arith, same_processes h, s.counts.processes)

  pub few_variables : Sound t → run_formed t run ≡ true → run.variables ≤ variable_room
  few_variables s h = omega (arith, same_variables h, s.counts.variables)

  pub few_clocks : Sound t → run_formed t run ≡ true → run.clocks ≤ clock_room
  few_clocks s h = omega (arith, same_clocks h, s.counts.clocks)

  -- ---- there is room for its processes and clocks
  pub places_room : fits_table t run ≡ true → Sized run → run.processes ≤ length run.places
  places_room h z = omega (arith, few_processes (fitting h).0 (fitting h).1, z.places)

  pub clocks_room : fits_table t run ≡ true → Sized run → run.clocks ≤ length run.times
  clocks_room h z = omega (arith, few_clocks (fitting h).0 (fitting h).1, z.times)

  -- ---- each process is at a location
  pub places_below : run_formed t run ≡ true → (p : ℕ) → p < run.processes → get_or run.places p 0 < location_count t
  unfolding run_formed place_known
  places_below h p l = ltb-true _ _ (all_at (place_known t run.places) _ p (and_first _ _ (and_rest _ _ h)) l)

-- ---- an action of a kind is known
pub of_kind : (t : List ℕ) (a kind : ℕ) → is_kind t a kind ≡ true → (a < action_count t) × (action_kind t a ≡ kind)
of_kind t a kind h = (ltb-true _ _ (and_first _ _ h), eqb-true _ _ (and_rest _ _ h))

-- ---- a choice, by its test
pub chosen : {A : Type 0} {b : Bool} {r x : A} (y : A) → b ≡ true → r ≡ x → r ≡ cond b x y
chosen {x = x} y e h = h ∙ ap (λ (b : Bool). cond b x y) (sym e)

pub left_over : {A : Type 0} {b : Bool} {r y : A} (x : A) → b ≡ false → r ≡ y → r ≡ cond b x y
left_over {y = y} x e h = h ∙ ap (λ (b : Bool). cond b x y) (sym e)

-- what is so of each side where the test chooses it is so of the choice
pub either_way : {A : Type 0} (P : A → Type 0) (b : Bool) (x y : A) → (b ≡ true → P x) → (b ≡ false → P y) → P (cond b x y)
either_way P true x y h k = h refl
either_way P false x y h k = k refl
