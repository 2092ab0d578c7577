-- What fails of a candidate, and whether it passes: the two tests are one.
use Prim.Native.Nat.{ℕ}
use mathlib.Core.Path.{◌≡◌, refl}
use mathlib.Core.Bool.{Bool, true, false}
use mathlib.Core.List.{List}
use lib.Dec.{eqb}
use Rattle.laws.specs.Ladder.{unless}
use Rattle.laws.specs.Below.{◌and◌}
use Rattle.grammar.specs.declared.values.Slot.{Slot}
use Rattle.graph_tables.specs.Words.{key_of, post_of, limit_count}
use Rattle.run_steps.specs.Steps.{guard_holds, limits_hold, invariants_hold, passes_of, failing_of}
use Rattle.run_steps.specs.Steps.{nothing_fails, guard_fails, limit_fails, invariant_fails}

three : (a b c : Bool)
    → eqb (unless a guard_fails (unless b limit_fails (unless c invariant_fails nothing_fails))) nothing_fails ≡ (a and b and c)
unfolding unless ◌and◌
three true true true = refl
three true true false = refl
three true false c = refl
three false b c = refl

pub passes_none : (t : List ℕ) (vars : List Slot) (clocks after : List ℕ) (k : ℕ)
    → eqb (failing_of t vars clocks after k) nothing_fails ≡ passes_of t vars clocks after k
unfolding failing_of passes_of
passes_none t vars clocks after k =
    three (guard_holds t vars k) (limits_hold t k (limit_count t k) clocks) (invariants_hold t after (post_of (key_of t k)))
