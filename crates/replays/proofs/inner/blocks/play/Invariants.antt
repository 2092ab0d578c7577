use Prim.Native.Nat.{◌-◌, ◌*◌, ◌≤◌}
use mathlib.Core.Path.{◌≡◌}
use lib.ListN.{length}
use Rattle.recordings.specs.Blocks.{blocks_in}
use Rattle.replays.specs.Facts.{Ready}
use Rattle.replays.specs.Replay.{blocks_played, all_played}
use Rattle.replays.proofs.inner.blocks.play.Given as goal

abbrev pub invariant-loop-b : goal.invariant-loop-b
invariant-loop-b l =
    (l.b ≤ l.b-end) × (l.b-end ≡ blocks_in (length l.bytes)) × Ready l.t l.s × (l.done ≤ 15 * l.b)
    × (blocks_played l.t l.s l.bytes l.b l.done (blocks_in (length l.bytes) - l.b) ≡ all_played l.t l.initial.s l.bytes)

abbrev pub decreases-loop-b : goal.decreases-loop-b
decreases-loop-b l = l.b-end - l.b
