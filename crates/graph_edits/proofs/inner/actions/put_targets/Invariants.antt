use Prim.Native.Nat.{◌≤◌}
use mathlib.Core.Path.{◌≡◌}
use lib.ListN.{length}
use Rattle.graph_edits.specs.Edits.{with_targets}
use Rattle.graph_edits.proofs.inner.actions.put_targets.Given as goal

abbrev pub invariant-loop-e : goal.invariant-loop-e
invariant-loop-e l = (l.e ≤ l.e-end) × ((length l.t ≡ length l.initial.t) × (l.t ≡ with_targets l.initial.t l.a l.fn.handed l.e))
