use Prim.Native.Nat.{◌-◌, ◌≤◌}
use mathlib.Core.Path.{◌≡◌}
use lib.ListN.{length}
use Rattle.run_steps.specs.Steps.{shifted_below}
use Rattle.run_steps.proofs.inner.waits.shift.Given as goal

abbrev pub invariant-loop-i : goal.invariant-loop-i
invariant-loop-i l = (l.i ≤ l.n) × (length l.clocks ≡ length l.initial.clocks) × (l.clocks ≡ shifted_below l.initial.clocks l.delta l.i)

abbrev pub decreases-loop-i : goal.decreases-loop-i
decreases-loop-i l = l.n - l.i
