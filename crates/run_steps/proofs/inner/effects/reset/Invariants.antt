use Prim.Native.Nat.{◌-◌, ◌≤◌}
use mathlib.Core.Path.{◌≡◌}
use lib.ListN.{length}
use Rattle.run_steps.specs.Steps.{reset_below}
use Rattle.run_steps.proofs.inner.effects.reset.Given as goal

abbrev pub invariant-loop-i : goal.invariant-loop-i
invariant-loop-i l = (l.i ≤ l.i-end) × (length l.clocks ≡ length l.initial.clocks) × (l.clocks ≡ reset_below l.t l.a l.initial.clocks l.i)

abbrev pub decreases-loop-i : goal.decreases-loop-i
decreases-loop-i l = l.i-end - l.i
