use Prim.Native.Nat.{◌-◌, ◌≤◌}
use mathlib.Core.Path.{◌≡◌}
use Rattle.system_tables.specs.Words.{graph_count}
use Rattle.system_state.specs.Fits.{StateSound}
use Rattle.channel_system.specs.Waits.{later_below}
use Rattle.channel_system.proofs.inner.waits.later_graphs.Given as goal

abbrev pub invariant-loop-g : goal.invariant-loop-g
invariant-loop-g l = (l.g ≤ l.g-end) × (l.g-end ≡ graph_count l.t) × StateSound l.t l.s × (l.s ≡ later_below l.t l.initial.s l.delta l.g)

abbrev pub decreases-loop-g : goal.decreases-loop-g
decreases-loop-g l = l.g-end - l.g
