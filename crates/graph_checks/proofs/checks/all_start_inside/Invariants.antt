use Prim.Native.Nat.{◌-◌, ◌≤◌}
use mathlib.Core.Bool.{true}
use mathlib.Core.Path.{◌≡◌}
use Rattle.laws.specs.Below.{all_below}
use Rattle.graph_checks.specs.Checks.{starts_inside}
use Rattle.graph_checks.proofs.checks.all_start_inside.Given as goal

abbrev pub invariant-loop-i : goal.invariant-loop-i
invariant-loop-i l = (l.i ≤ l.i-end) × (all_below l.i (starts_inside l.handed) ≡ true)

abbrev pub decreases-loop-i : goal.decreases-loop-i
decreases-loop-i l = l.i-end - l.i
