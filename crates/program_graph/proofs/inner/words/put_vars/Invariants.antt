use Prim.Native.Nat.{◌-◌, ◌≤◌}
use Rattle.program_graph.specs.Inner.{VarsStored}
use Rattle.program_graph.proofs.inner.words.put_vars.Given as goal

abbrev pub invariant-loop-v : goal.invariant-loop-v
invariant-loop-v l = (l.v ≤ l.n) × VarsStored l.ws l.vars l.v

abbrev pub decreases-loop-v : goal.decreases-loop-v
decreases-loop-v l = l.n - l.v
