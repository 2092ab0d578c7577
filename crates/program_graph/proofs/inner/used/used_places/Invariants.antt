use Prim.Native.Nat.{◌≤◌, ◌-◌}
use mathlib.Core.Path.{◌≡◌}
use Rattle.graph_tables.specs.Sizes.{process_room}
use Rattle.program_graph.specs.Used.{numbers_below}
use Rattle.program_graph.proofs.inner.used.used_places.Given as goal

abbrev pub invariant-loop-p : goal.invariant-loop-p
invariant-loop-p l = (l.p ≤ l.n) × (l.places ≡ numbers_below process_room l.from l.p)

abbrev pub decreases-loop-p : goal.decreases-loop-p
decreases-loop-p l = l.n - l.p
