use Prim.Native.Nat.{◌+◌, ◌-◌, ◌≤◌}
use mathlib.Core.Path.{◌≡◌}
use Rattle.recordings.specs.Numbers.{row}
use Rattle.recordings.specs.Blocks.{entry_at, entries_of}
use Rattle.replays.specs.Facts.{Ready}
use Rattle.replays.specs.Replay.{records_played}
use Rattle.replays.proofs.inner.blocks.play_records.Given as goal

abbrev pub invariant-loop-i : goal.invariant-loop-i
invariant-loop-i l =
    (l.i ≤ l.n) × Ready l.t l.s
    × (records_played l.t l.s l.b l.i (l.done + l.i) (row (entry_at l.block) l.i (l.n - l.i)) ≡ records_played l.t l.initial.s l.b 0 l.done (entries_of l.block))

abbrev pub decreases-loop-i : goal.decreases-loop-i
decreases-loop-i l = l.n - l.i
