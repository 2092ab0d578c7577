use Prim.Native.Nat.{◌-◌, ◌≤◌}
use mathlib.Core.Path.{◌≡◌}
use mathlib.Core.Bool.{true}
use Rattle.laws.specs.Below.{all_below}
use Rattle.graph_edits.specs.Edits.{chosen}
use Rattle.system_builder.specs.Messages.{sent_typed}
use Rattle.system_builder.proofs.inner.messages.all_typed.Given as goal

abbrev pub invariant-loop-e : goal.invariant-loop-e
invariant-loop-e l = (l.e ≤ l.count) × (all_below l.e (sent_typed l.graph (chosen l.w l.x l.y l.z)) ≡ true)

abbrev pub decreases-loop-e : goal.decreases-loop-e
decreases-loop-e l = l.count - l.e
