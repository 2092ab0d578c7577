use Prim.Native.Nat.{◌-◌, ◌≤◌}
use mathlib.Core.Path.{◌≡◌}
use Rattle.system_tables.specs.Words.{graph_count}
use Rattle.system_state.specs.Words.{StateWords}
use Rattle.system_state.specs.Fresh.{fresh_runs_below}
use Rattle.system_state.proofs.inner.fresh.fresh_runs.Given as goal

abbrev pub invariant-loop-g : goal.invariant-loop-g
invariant-loop-g l = (l.g ≤ l.g-end) × (l.g-end ≡ graph_count l.t) × StateWords l.s × (l.s ≡ fresh_runs_below l.t l.initial.s l.g)

abbrev pub decreases-loop-g : goal.decreases-loop-g
decreases-loop-g l = l.g-end - l.g
