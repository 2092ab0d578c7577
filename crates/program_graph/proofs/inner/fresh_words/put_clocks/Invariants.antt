use Prim.Native.Nat.{◌≤◌, ◌-◌}
use mathlib.Core.Path.{◌≡◌}
use lib.ListN.{length}
use Rattle.graph_tables.specs.Sizes.{clock_room}
use Rattle.graph_tables.specs.Words.{clock_count}
use Rattle.program_graph.specs.FreshWords.{clock_cell, zero_time, put_below}
use Rattle.program_graph.proofs.inner.fresh_words.put_clocks.Given as goal

abbrev pub invariant-loop-c : goal.invariant-loop-c
invariant-loop-c l =
    (l.c ≤ l.c-end) × (l.c-end ≤ clock_room) × (l.c-end ≡ clock_count l.t) × (length l.r ≡ length l.initial.r) × (l.r ≡ put_below l.initial.r clock_cell zero_time l.c)

abbrev pub decreases-loop-c : goal.decreases-loop-c
decreases-loop-c l = l.c-end - l.c
