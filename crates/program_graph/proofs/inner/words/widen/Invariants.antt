use Prim.Native.Nat.{ℕ, ◌-◌, ◌≤◌, ◌<◌}
use mathlib.Core.Path.{◌≡◌}
use Rattle.graph_tables.specs.Sizes.{word32}
use lib.ListN.{length, get_or}
use Rattle.laws.proofs.Copies.{Filled}
use Rattle.program_graph.proofs.inner.words.widen.Given as goal

abbrev pub invariant-loop-i : goal.invariant-loop-i
invariant-loop-i l =
    (l.i ≤ length l.from) × (length l.to ≡ length l.from) × Filled 0 l.to l.from l.i × ((j : ℕ) → j < l.i → get_or l.from j 0 < word32)

abbrev pub decreases-loop-i : goal.decreases-loop-i
decreases-loop-i l = length l.from - l.i
