use mathlib.Core.Path.{◌≡◌}
use lib.ListN.{length}
use Rattle.channel_system.specs.Steps.{locations_of}
use Rattle.channel_system.proofs.PostLaws.{Copied}
use Rattle.channel_system.proofs.inner.posts.locations.Given as goal

abbrev pub invariant-loop-i : goal.invariant-loop-i
invariant-loop-i l = (length l.to ≡ length l.initial.to) × Copied l.to (locations_of l.posts) l.i
