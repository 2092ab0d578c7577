use Prim.Native.Nat.{◌-◌, ◌≤◌}
use mathlib.Core.Path.{◌≡◌}
use mathlib.Core.Bool.{true}
use Rattle.laws.specs.Below.{all_below}
use Rattle.graph_edits.specs.Edits.{chosen}
use Rattle.system_builder.specs.Messages.{sent_fits}
use Rattle.system_builder.proofs.inner.messages.all_sent_fit.Given as goal

abbrev pub invariant-loop-e : goal.invariant-loop-e
invariant-loop-e l = (l.e ≤ l.count) × (all_below l.e (sent_fits l.t l.q l.graph (chosen l.w l.x l.y l.z)) ≡ true)

abbrev pub decreases-loop-e : goal.decreases-loop-e
decreases-loop-e l = l.count - l.e
