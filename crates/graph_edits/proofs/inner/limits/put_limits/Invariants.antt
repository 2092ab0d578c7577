use Prim.Native.Nat.{◌≤◌}
use mathlib.Core.Path.{◌≡◌}
use lib.ListN.{length}
use Rattle.graph_edits.specs.Edits.{with_limits}
use Rattle.graph_edits.proofs.inner.limits.put_limits.Given as goal

abbrev pub invariant-loop-n : goal.invariant-loop-n
invariant-loop-n l = (l.n ≤ l.n-end) × ((length l.t ≡ length l.initial.t) × (l.t ≡ with_limits l.initial.t l.g l.fn.handed l.n))
