use Rattle.graph_tables.specs.Answers.{admitted}
use Rattle.graph_tables.specs.Words.{kinds_of}
use Rattle.graph_edits.specs.Edits.{chosen}
use Rattle.graph_checks.specs.Checks.{each_below, expression_check}
use Prim.Native.Nat.{◌-◌, ◌≤◌}
use mathlib.Core.Path.{◌≡◌}
use Rattle.graph_checks.proofs.checks.message_check.Given as goal

abbrev pub invariant-loop-i : goal.invariant-loop-i
invariant-loop-i l = (l.i ≤ l.count) × (each_below l.i (expression_check (kinds_of l.t) (chosen l.w l.x l.y l.z)) ≡ admitted)

abbrev pub decreases-loop-i : goal.decreases-loop-i
decreases-loop-i l = l.count - l.i
