use Prim.Native.Nat.{◌≤◌, ◌-◌}
use mathlib.Core.Path.{◌≡◌}
use Rattle.graph_tables.specs.Words.{action_count}
use Rattle.run_steps.specs.Listing.{seek, join_below}
use Rattle.run_steps.specs.declared.inner.listing.Sought.TheVariants.{Left}
use Rattle.system_tables.specs.Words.{graph_part}
use Rattle.channel_system.specs.Listing.{entries_by}
use Rattle.channel_system.proofs.inner.listing.seek_on.Given as goal

abbrev pub invariant-loop-a : goal.invariant-loop-a
invariant-loop-a l =
    (l.a ≤ l.a-end) × (l.a-end ≡ action_count (graph_part l.t l.g)) × (seek (join_below l.a (entries_by l.t l.s l.g)) l.k ≡ Left l.left)

abbrev pub decreases-loop-a : goal.decreases-loop-a
decreases-loop-a l = l.a-end - l.a
