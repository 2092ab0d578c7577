-- The invariants of every occupied location hold while the table grows: no building call adds one to a location that is there.
use Prim.Native.Nat.{ℕ, zero, suc, ◌<◌}
use mathlib.Core.Path.{◌≡◌, sym, subst}
use mathlib.Core.Bool.{true, false}
use mathlib.Core.List.{List, [], ◌∷◌, ◌++◌}
use native.Mathlib.Nat.{not-suc-le-zero}
use native.Mathlib.Omega.{arith}
use lib.ListN.{get_or}
use Rattle.time.specs.Time.{in_range}
use Rattle.graph_tables.specs.Words.{location_count, invariant_count, invariant_group}
use Rattle.graph_tables.specs.Formed.{well_formed}
use Rattle.graph_edits.specs.Lists.{list_of, StoredLimit, limit_at}
use Rattle.graph_builder.specs.Chains.{Call, after, Fits}
use Rattle.graph_builder.proofs.KeptParts.{invariants_kept}
use Rattle.graph_builder.proofs.Theorems.{parts_stay, none_fewer, stays_formed}
use Rattle.program_graph.specs.Facts.{Sized, Accepted, InvariantsAt, Holding}
use Rattle.program_graph.specs.RunChains.{RunCall, answer_to, run_after}
use Rattle.program_graph.specs.GrowingChains.{Member, runs, builds, Stage, fresh, fitting, next, next_all, MembersFit}
use Rattle.program_graph.specs.declared.record.ProgramGraphRun.{ProgramGraphRun}
use Rattle.program_graph.proofs.RunLaws.{table_formed, run_formed_lem, places_below}
use Rattle.program_graph.proofs.RunKept.{fresh_fits}
use Rattle.program_graph.proofs.RunChains.{call_keeps, accepted_holds, call_holds, fresh_holds}
use Rattle.program_graph.proofs.GrowingMembers.{for_building, call_either, sized_call}
use Rattle.program_graph.proofs.GrowingChains.{next_both, fit_first, fit_second}

-- ---- what is so of each of a list
module _ {A : Type 0} (P : A → Type 0) where
  abbrev Each : List A → Type 0
  Each [] = Unit {0}
  Each (x ∷ xs) = P x × Each xs

  to_each : (f : ℕ → A) (n : ℕ) → ((i : ℕ) → i < n → P (f i)) → Each (list_of f n)
  unfolding list_of
  to_each f zero h = tt
  to_each f (suc n) h = (h zero (omega arith), to_each (λ (i : ℕ). f (suc i)) n (λ i l. h (suc i) (omega arith)))

  from_each : (f : ℕ → A) (n : ℕ) → Each (list_of f n) → (i : ℕ) → i < n → P (f i)
  unfolding list_of
  from_each f zero h i l = absurd (not-suc-le-zero l)
  from_each f (suc n) h zero l = h.0
  from_each f (suc n) h (suc i) l = from_each (λ (j : ℕ). f (suc j)) n h.1 i (omega arith)

-- a limit that holds on the clocks
abbrev Met : List ℕ → StoredLimit → Type 0
Met clocks x = in_range x.range (get_or clocks x.clock 0) ≡ true

-- ---- one building call
module _ (t : List ℕ) (call : Call) (fit : Fits call) where
  -- the invariants of a location that was there hold on the same clocks
  build_at : (clocks : List ℕ) (l : ℕ) → l < location_count t → InvariantsAt t clocks l → InvariantsAt (after t call) clocks l
  build_at clocks l known holds =
      from_each (Met clocks) (limit_at (after t call) (invariant_group l)) (invariant_count (after t call) l)
      (subst (Each (Met clocks)) (sym (invariants_kept t (after t call) (parts_stay t call fit) l known))
      (to_each (Met clocks) (limit_at t (invariant_group l)) (invariant_count t l) holds))

-- ---- a chain
-- a well-formed table, and a run whose arrays have their sizes and whose processes are at its locations
record Placed (s : Stage) : Type 0 where
  formed : well_formed s.table true ≡ true
  sized : Sized s.run
  places : (p : ℕ) → p < s.run.processes → get_or s.run.places p 0 < location_count s.table

placed_first : (s : Stage) → fitting s ≡ true → Sized s.run → Placed s
placed_first s f z = record {
  formed = for_building s.table (table_formed s.table s.run f);
  sized = z;
  places = places_below s.table s.run (run_formed_lem s.table s.run f);
}

placed_run : (s : Stage) (call : RunCall) → Placed s → Placed (next s (runs call))
placed_run s call d = record {
  formed = d.formed;
  sized = sized_call s.table s.run call d.sized;
  places = call_either s.table s.run
      (λ (r : ProgramGraphRun). (p : ℕ) → p < r.processes → get_or r.places p 0 < location_count s.table)
      call d.places (λ f.
      let k = call_keeps s.table s.run call f d.sized in
      places_below s.table (run_after s.table s.run call) (run_formed_lem s.table (run_after s.table s.run call) k.0));
}

placed_build : (s : Stage) (call : Call) → Fits call → Placed s → Placed (next s (builds call))
placed_build s call fit d = record {
  formed = stays_formed s.table call fit d.formed;
  sized = d.sized;
  places = λ p l.
      omega (arith, d.places p l, none_fewer s.table call fit);
}

placed_all : (s : Stage) (ms : List Member) → MembersFit ms → Placed s → Placed (next_all s ms)
placed_all s [] fit d = d
placed_all s (runs call ∷ ms) fit d = placed_all (next s (runs call)) ms fit (placed_run s call d)
placed_all s (builds call ∷ ms) fit d = placed_all (next s (builds call)) ms fit.1 (placed_build s call fit.0 d)

-- the invariants of every occupied location hold on the table as it stands
abbrev pub AllHold : Stage → Type 0
AllHold s = Holding s.table s.run

held_all : (s : Stage) (ms : List Member) → MembersFit ms → Placed s → AllHold s → AllHold (next_all s ms)
held_all s [] fit d h = h
held_all s (runs call ∷ ms) fit d h =
    held_all (next s (runs call)) ms fit (placed_run s call d) (call_holds s.table s.run call d.sized h)
held_all s (builds call ∷ ms) fit d h =
    held_all (next s (builds call)) ms fit.1 (placed_build s call fit.0 d) (λ p l.
    build_at s.table call fit.0 s.run.times (get_or s.run.places p 0) (d.places p l) (h p l))

module _ (s : Stage) (f : fitting s ≡ true) (z : Sized s.run) where
  -- If the invariants of every occupied location hold before a chain they hold after it, on the table as it stands then.
  pub invariants_hold_lem : (ms : List Member) → MembersFit ms → AllHold s → AllHold (next_all s ms)
  invariants_hold_lem ms fit h = held_all s ms fit (placed_first s f z) h

  -- After an accepted running call they hold, and after every chain behind it.
  pub invariants_after : (first : List Member) (call : RunCall) (second : List Member) → MembersFit (first ++ (runs call ∷ second))
      → Accepted (answer_to (next_all s first).table (next_all s first).run call) → AllHold (next_all s (first ++ (runs call ∷ second)))
  invariants_after first call second fit e =
      let at : Stage = next_all s first in
      let d : Placed at = placed_all s first (fit_first first (runs call ∷ second) fit) (placed_first s f z) in
      subst AllHold (sym (next_both s first (runs call ∷ second)))
      (held_all (next at (runs call)) second (fit_second first (runs call ∷ second) fit) (placed_run at call d)
      (accepted_holds at.table at.run call e d.sized))

-- From a fresh run of a well-formed table they hold after every chain.
pub fresh_invariants : (t : List ℕ) → well_formed t false ≡ true → (ms : List Member) → MembersFit ms
    → AllHold (next_all (fresh t) ms)
fresh_invariants t formed ms fit =
    let q = fresh_fits t formed in
    invariants_hold_lem (fresh t) q.0 q.1 ms fit (fresh_holds t formed)
