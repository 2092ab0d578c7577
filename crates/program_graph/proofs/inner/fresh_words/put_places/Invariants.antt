use Prim.Native.Nat.{◌≤◌, ◌-◌}
use mathlib.Core.Path.{◌≡◌}
use lib.ListN.{length}
use Rattle.graph_tables.specs.Sizes.{process_room}
use Rattle.graph_tables.specs.Words.{process_count, place_at}
use Rattle.program_graph.specs.FreshWords.{place_cell, put_below}
use Rattle.program_graph.proofs.inner.fresh_words.put_places.Given as goal

abbrev pub invariant-loop-p : goal.invariant-loop-p
invariant-loop-p l =
    (l.p ≤ l.p-end) × (l.p-end ≤ process_room) × (l.p-end ≡ process_count l.t) × (length l.r ≡ length l.initial.r) × (l.r ≡ put_below l.initial.r place_cell (place_at l.t) l.p)

abbrev pub decreases-loop-p : goal.decreases-loop-p
decreases-loop-p l = l.p-end - l.p
