use Prim.Native.Nat.{◌-◌, ◌≤◌}
use mathlib.Core.Path.{◌≡◌}
use mathlib.Core.Bool.{true}
use Rattle.laws.specs.Below.{all_below}
use Rattle.graph_tables.specs.Words.{pre_of, action_of, post_of}
use Rattle.explainer.specs.Cause.{other_than}
use Rattle.explainer.proofs.inner.cause.first.Given as goal

abbrev pub invariant-loop-k : goal.invariant-loop-k
invariant-loop-k l = (l.k ≤ l.count) × (all_below l.k (other_than l.t (pre_of l.key) (action_of l.key) (post_of l.key)) ≡ true)

abbrev pub decreases-loop-k : goal.decreases-loop-k
decreases-loop-k l = l.count - l.k
