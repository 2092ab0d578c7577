use Prim.Native.Nat.{ℕ, ◌-◌, ◌≤◌}
use mathlib.Core.Path.{◌≡◌}
use mathlib.Core.List.{[], ◌∷◌}
use mathlib.Core.Bool.{cond}
use Rattle.grammar.specs.Slots.{slots_of}
use Rattle.graph_tables.specs.Words.{pre_of, action_of}
use Rattle.run_steps.specs.Listing.{seek, join_below, opens_by, entry_of}
use Rattle.run_steps.specs.declared.inner.listing.Sought.TheVariants.{Left}
use Rattle.run_steps.proofs.inner.listing.seek_process.Given as goal

abbrev pub invariant-loop-k : goal.invariant-loop-k
invariant-loop-k l =
    (l.k ≤ l.k-end)
    × (seek (join_below l.k
    (λ (i : ℕ). cond (opens_by l.t (slots_of l.vars) l.clocks (pre_of l.first) (action_of l.first) i)
    (entry_of l.t (action_of l.first) l.p i ∷ []) [])) l.number ≡ Left l.left)

abbrev pub decreases-loop-k : goal.decreases-loop-k
decreases-loop-k l = l.k-end - l.k
