use Prim.Native.Nat.{◌≤◌}
use mathlib.Core.Path.{◌≡◌}
use lib.ListN.{length}
use Rattle.graph_edits.specs.Edits.{chosen, with_expressions}
use Rattle.graph_edits.proofs.inner.actions.put_expressions.Given as goal

abbrev pub invariant-loop-e : goal.invariant-loop-e
invariant-loop-e l = (l.e ≤ l.count) × ((length l.t ≡ length l.initial.t) × (l.t ≡ with_expressions l.initial.t l.a (chosen l.w l.x l.y l.z) l.e))
