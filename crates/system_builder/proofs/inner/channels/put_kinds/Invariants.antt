use Prim.Native.Nat.{◌-◌, ◌≤◌}
use mathlib.Core.Path.{◌≡◌}
use lib.ListN.{length}
use Rattle.system_builder.specs.Systems.{with_kinds}
use Rattle.system_builder.proofs.inner.channels.put_kinds.Given as goal

abbrev pub invariant-loop-e : goal.invariant-loop-e
invariant-loop-e l = (l.e ≤ l.kinds.count) × ((length l.t ≡ length l.initial.t) × (l.t ≡ with_kinds l.initial.t l.q l.kinds l.e))

abbrev pub decreases-loop-e : goal.decreases-loop-e
decreases-loop-e l = l.e-end - l.e
