use Prim.Native.Nat.{◌+◌, ◌-◌, ◌*◌, ◌≤◌}
use mathlib.Core.Path.{◌≡◌}
use Rattle.graph_edits.specs.Rows.{number_at, place_from, place_of}
use Rattle.graph_edits.proofs.inner.rows.place.Given as goal

abbrev pub invariant-loop-i : goal.invariant-loop-i
invariant-loop-i l =
    (l.i ≤ l.n) × ((l.at ≡ l.base + l.w * l.i) × (place_of (number_at l.t l.base l.w) l.n l.k ≡ place_from (number_at l.t l.base l.w) l.k l.i (l.n - l.i)))
