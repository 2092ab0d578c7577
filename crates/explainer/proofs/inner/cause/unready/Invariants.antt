use Prim.Native.Nat.{◌-◌, ◌≤◌}
use mathlib.Core.Path.{◌≡◌}
use mathlib.Core.Bool.{true}
use lib.ListN.{length}
use Rattle.laws.specs.Below.{all_below}
use Rattle.program_graph.specs.Inner.{run_at}
use Rattle.explainer.specs.Cause.{ready_in}
use Rattle.explainer.proofs.inner.cause.unready.Given as goal

abbrev pub invariant-loop-p : goal.invariant-loop-p
invariant-loop-p l = (l.p ≤ length l.posts) × (all_below l.p (ready_in l.t (run_at l.r) l.a l.posts) ≡ true)

abbrev pub decreases-loop-p : goal.decreases-loop-p
decreases-loop-p l = length l.posts - l.p
