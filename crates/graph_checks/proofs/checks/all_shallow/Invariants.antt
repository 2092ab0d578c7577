use Rattle.laws.specs.Below.{all_below}
use Rattle.graph_tables.specs.Words.{kinds_of}
use Rattle.graph_edits.specs.Edits.{chosen}
use Rattle.graph_checks.specs.Checks.{shallow}
use mathlib.Core.Bool.{true}
use Prim.Native.Nat.{◌-◌, ◌≤◌}
use mathlib.Core.Path.{◌≡◌}
use Rattle.graph_checks.proofs.checks.all_shallow.Given as goal

abbrev pub invariant-loop-i : goal.invariant-loop-i
invariant-loop-i l = (l.i ≤ l.count) × (all_below l.i (shallow (kinds_of l.t) (chosen l.w l.x l.y l.z)) ≡ true)

abbrev pub decreases-loop-i : goal.decreases-loop-i
decreases-loop-i l = l.count - l.i
