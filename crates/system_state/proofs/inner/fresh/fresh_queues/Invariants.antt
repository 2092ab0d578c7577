use Prim.Native.Nat.{◌-◌, ◌≤◌}
use mathlib.Core.Path.{◌≡◌}
use Rattle.system_tables.specs.Words.{channel_count}
use Rattle.system_state.specs.Words.{StateWords}
use Rattle.system_state.specs.Fresh.{fresh_queues_below}
use Rattle.system_state.proofs.inner.fresh.fresh_queues.Given as goal

abbrev pub invariant-loop-q : goal.invariant-loop-q
invariant-loop-q l = (l.q ≤ l.q-end) × (l.q-end ≡ channel_count l.t) × StateWords l.s × (l.s ≡ fresh_queues_below l.initial.s l.q)

abbrev pub decreases-loop-q : goal.decreases-loop-q
decreases-loop-q l = l.q-end - l.q
