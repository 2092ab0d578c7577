use Prim.Native.Nat.{◌≤◌, ◌-◌}
use mathlib.Core.Path.{◌≡◌}
use Rattle.program_graph.specs.Running.{start_vars}
use Rattle.program_graph.proofs.inner.fresh.start_vars.Given as goal

abbrev pub invariant-loop-v : goal.invariant-loop-v
invariant-loop-v l = (l.v ≤ l.n) × (l.vars ≡ start_vars l.t l.v)

abbrev pub decreases-loop-v : goal.decreases-loop-v
decreases-loop-v l = l.n - l.v
