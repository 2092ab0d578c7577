use Prim.Native.Nat.{◌≤◌, ◌-◌}
use mathlib.Core.Path.{◌≡◌}
use lib.ListN.{length}
use Rattle.graph_tables.specs.Sizes.{variable_room}
use Rattle.graph_tables.specs.Words.{variable_count, value_at}
use Rattle.program_graph.specs.FreshWords.{payload_cell, put_below}
use Rattle.program_graph.proofs.inner.fresh_words.put_payloads.Given as goal

abbrev pub invariant-loop-v : goal.invariant-loop-v
invariant-loop-v l =
    (l.v ≤ l.v-end) × (l.v-end ≤ variable_room) × (l.v-end ≡ variable_count l.t) × (length l.r ≡ length l.initial.r) × (l.r ≡ put_below l.initial.r payload_cell (value_at l.t) l.v)

abbrev pub decreases-loop-v : goal.decreases-loop-v
decreases-loop-v l = l.v-end - l.v
