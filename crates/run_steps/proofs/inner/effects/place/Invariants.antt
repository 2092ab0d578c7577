use Prim.Native.Nat.{◌-◌, ◌≤◌}
use mathlib.Core.Path.{◌≡◌}
use lib.ListN.{length}
use Rattle.run_steps.specs.Steps.{placed_below}
use Rattle.run_steps.proofs.inner.effects.place.Given as goal

abbrev pub invariant-loop-p : goal.invariant-loop-p
invariant-loop-p l = (l.p ≤ length l.posts) × (length l.places ≡ length l.initial.places) × (l.places ≡ placed_below l.initial.places l.posts l.p)

abbrev pub decreases-loop-p : goal.decreases-loop-p
decreases-loop-p l = length l.posts - l.p
