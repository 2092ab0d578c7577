use Prim.Native.Nat.{◌≤◌, ◌-◌}
use mathlib.Core.Path.{◌≡◌}
use Rattle.system_tables.specs.Words.{graph_count}
use Rattle.channel_system.specs.Listing.{listed_below}
use Rattle.channel_system.proofs.EntryLaws.{Passes}
use Rattle.channel_system.proofs.inner.listing.entry_at.Given as goal

abbrev pub invariant-loop-g : goal.invariant-loop-g
invariant-loop-g l = (l.g ≤ l.g-end) × (l.g-end ≡ graph_count l.t) × Passes (listed_below l.t l.s l.g) l.k l.left

abbrev pub decreases-loop-g : goal.decreases-loop-g
decreases-loop-g l = l.g-end - l.g
