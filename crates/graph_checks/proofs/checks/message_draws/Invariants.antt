use Rattle.laws.specs.Below.{sum_below}
use Rattle.graph_edits.specs.Edits.{chosen}
use Rattle.graph_checks.specs.Checks.{message_draws}
use Prim.Native.Nat.{◌-◌, ◌*◌, ◌≤◌}
use mathlib.Core.Path.{◌≡◌}
use Rattle.graph_tables.specs.Sizes.{item_room}
use Rattle.graph_checks.proofs.checks.message_draws.Given as goal

abbrev pub invariant-loop-i : goal.invariant-loop-i
invariant-loop-i l = (l.i ≤ l.count) × (l.sum ≤ item_room * l.i) × (l.sum ≡ sum_below l.i (message_draws (chosen l.w l.x l.y l.z)))

abbrev pub decreases-loop-i : goal.decreases-loop-i
decreases-loop-i l = l.count - l.i
