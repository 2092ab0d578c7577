use Prim.Native.Nat.{◌-◌, ◌*◌, ◌≤◌}
use mathlib.Core.Path.{◌≡◌}
use Rattle.laws.specs.Below.{sum_below}
use Rattle.recordings.specs.Blocks.{weighed}
use Rattle.recordings.proofs.blocks.sum.Given as goal

abbrev pub invariant-loop-i : goal.invariant-loop-i
invariant-loop-i l = (l.i ≤ 508) × (l.total ≡ sum_below l.i (weighed l.b)) × (l.total ≤ 129540 * l.i)

abbrev pub decreases-loop-i : goal.decreases-loop-i
decreases-loop-i l = 508 - l.i
