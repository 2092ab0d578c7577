use Prim.Native.Nat.{◌-◌, ◌≤◌}
use mathlib.Core.Path.{◌≡◌}
use lib.ListN.{length}
use lib.ListN.{take}
use Rattle.recordings.specs.Numbers.{row}
use Rattle.recordings.specs.Records.{post_in}
use Rattle.replays.specs.Replay.{post_words}
use Rattle.replays.proofs.inner.calls.post_words.Given as goal

abbrev pub invariant-loop-j : goal.invariant-loop-j
invariant-loop-j l = (l.j ≤ l.n) × (length l.to ≡ length l.initial.to) × (take l.j l.to ≡ post_words l.g (row (post_in l.r) 0 l.j))

abbrev pub decreases-loop-j : goal.decreases-loop-j
decreases-loop-j l = l.n - l.j
