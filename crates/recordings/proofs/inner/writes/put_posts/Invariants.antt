use Prim.Native.Nat.{◌+◌, ◌-◌, ◌*◌, ◌≤◌}
use mathlib.Core.Path.{◌≡◌}
use lib.ListN.{length}
use lib.Seq.{sets}
use Rattle.recordings.specs.Numbers.{bytes_of}
use Rattle.recordings.specs.Writing.{part_of, joined, posts_of}
use Rattle.recordings.proofs.inner.writes.put_posts.Given as goal

abbrev pub invariant-loop-j : goal.invariant-loop-j
invariant-loop-j l =
    (l.j ≤ 4) × (length l.bytes ≡ length l.initial.bytes) × (sets l.bytes (l.at + 2 * l.j) (joined (part_of (bytes_of 2) 2 l.posts) l.j (4 - l.j)) ≡ sets l.initial.bytes l.at (posts_of l.posts))

abbrev pub decreases-loop-j : goal.decreases-loop-j
decreases-loop-j l = 4 - l.j
