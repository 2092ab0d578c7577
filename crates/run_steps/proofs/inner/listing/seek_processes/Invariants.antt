use Prim.Native.Nat.{ℕ, ◌-◌, ◌≤◌}
use mathlib.Core.Path.{◌≡◌}
use lib.ListN.{get_or}
use Rattle.grammar.specs.Slots.{slots_of}
use Rattle.run_steps.specs.Listing.{seek, join_below, process_entries}
use Rattle.run_steps.specs.declared.inner.listing.Sought.TheVariants.{Left}
use Rattle.run_steps.proofs.inner.listing.seek_processes.Given as goal

abbrev pub invariant-loop-p : goal.invariant-loop-p
invariant-loop-p l =
    (l.p ≤ l.p-end) × (seek (join_below l.p (λ (q : ℕ). process_entries l.t (slots_of l.vars) l.clocks (get_or l.places q 0) l.action q)) l.number ≡ Left l.left)

abbrev pub decreases-loop-p : goal.decreases-loop-p
decreases-loop-p l = l.p-end - l.p
