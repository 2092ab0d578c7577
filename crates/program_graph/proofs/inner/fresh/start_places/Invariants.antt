use Prim.Native.Nat.{◌≤◌, ◌-◌}
use mathlib.Core.Path.{◌≡◌}
use Rattle.program_graph.specs.Running.{start_places}
use Rattle.program_graph.proofs.inner.fresh.start_places.Given as goal

abbrev pub invariant-loop-p : goal.invariant-loop-p
invariant-loop-p l = (l.p ≤ l.n) × (l.places ≡ start_places l.t l.p)

abbrev pub decreases-loop-p : goal.decreases-loop-p
decreases-loop-p l = l.n - l.p
