use Prim.Native.Nat.{◌-◌, ◌≤◌}
use mathlib.Core.Path.{◌≡◌}
use mathlib.Core.Bool.{true}
use Rattle.laws.specs.Below.{all_below}
use Rattle.system_tables.specs.Words.{graph_count}
use Rattle.channel_system.specs.Waits.{graph_holds}
use Rattle.channel_system.proofs.inner.waits.objector.Given as goal

abbrev pub invariant-loop-g : goal.invariant-loop-g
invariant-loop-g l = (l.g ≤ l.n) × (l.n ≡ graph_count l.t) × (all_below l.g (graph_holds l.t l.s l.delta) ≡ true)

abbrev pub decreases-loop-g : goal.decreases-loop-g
decreases-loop-g l = l.n - l.g
