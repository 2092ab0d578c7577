use Prim.Native.Nat.{◌≤◌, ◌-◌}
use mathlib.Core.Path.{◌≡◌}
use lib.ListN.{length}
use Rattle.grammar.specs.Slots.{slots_of}
use Rattle.run_steps.specs.Listing.{seek, join_below, shared_entries}
use Rattle.run_steps.specs.declared.inner.listing.Sought.TheVariants.{Left}
use Rattle.run_steps.proofs.inner.listing.seek_entry.Given as goal

abbrev pub invariant-loop-a : goal.invariant-loop-a
invariant-loop-a l =
    (l.a ≤ l.a-end) × (seek (join_below l.a (shared_entries l.t (slots_of l.vars) l.clocks l.places (length l.places))) l.number ≡ Left l.left)

abbrev pub decreases-loop-a : goal.decreases-loop-a
decreases-loop-a l = l.a-end - l.a
