use Prim.Native.Nat.{◌≤◌, ◌-◌}
use mathlib.Core.Path.{◌≡◌}
use Rattle.graph_tables.specs.Sizes.{clock_room}
use Rattle.program_graph.specs.Used.{numbers_below}
use Rattle.program_graph.proofs.inner.used.used_times.Given as goal

abbrev pub invariant-loop-c : goal.invariant-loop-c
invariant-loop-c l = (l.c ≤ l.n) × (l.times ≡ numbers_below clock_room l.from l.c)

abbrev pub decreases-loop-c : goal.decreases-loop-c
decreases-loop-c l = l.n - l.c
