-- What a number for what fails of a candidate says.
use Prim.Native.Nat.{ℕ, ◌<◌}
use mathlib.Core.Path.{◌≡◌, refl, sym, ◌∙◌}
use mathlib.Core.Bool.{Bool, true, false}
use mathlib.Core.List.{List}
use mathlib.Core.Logic.{◌⊎◌, inl, inr, ⊎_elim}
use native.Mathlib.Nat.{eq-or-lt_of_le}
use Rattle.laws.specs.Ladder.{unless}
use Rattle.laws.proofs.Tests.{never}
use Rattle.grammar.specs.declared.values.Slot.{Slot}
use Rattle.graph_tables.specs.Words.{invariant_count, key_of, limit_count, post_of, invariant_group}
use Rattle.run_steps.specs.Lowest.{lowest}
use Rattle.run_steps.specs.Steps.{guard_holds, limit_holds, limits_hold, invariants_hold, failing_of}
use Rattle.run_steps.specs.Steps.{nothing_fails, guard_fails, limit_fails, invariant_fails}
use Rattle.run_steps.proofs.LowestLaws.{lowest_says, lowest_all}
use Rattle.explainer.specs.Cause.{number_for}
use Rattle.explainer.specs.Facts.{FirstOutside}

-- the four ways through the test
abbrev pub Ways : Bool → Bool → Bool → ℕ → Type 0
Ways a b c n =
    ((n ≡ guard_fails) × (a ≡ false))
    ⊎ (((n ≡ limit_fails) × (a ≡ true) × (b ≡ false))
    ⊎ (((n ≡ invariant_fails) × (a ≡ true) × (b ≡ true) × (c ≡ false))
    ⊎ ((n ≡ nothing_fails) × (a ≡ true) × (b ≡ true) × (c ≡ true))))

ways : (a b c : Bool) → Ways a b c (unless a guard_fails (unless b limit_fails (unless c invariant_fails nothing_fails)))
unfolding unless
ways false b c = inl (refl, refl)
ways true false c = inr (inl (refl, refl, refl))
ways true true false = inr (inr (inl (refl, refl, refl, refl)))
ways true true true = inr (inr (inr (refl, refl, refl, refl)))

pub failing_says : (t : List ℕ) (vars : List Slot) (clocks after : List ℕ) (k : ℕ)
    → Ways (guard_holds t vars k) (limits_hold t k (limit_count t k) clocks) (invariants_hold t after (post_of (key_of t k)))
    (failing_of t vars clocks after k)
unfolding failing_of
failing_says t vars clocks after k =
    ways (guard_holds t vars k) (limits_hold t k (limit_count t k) clocks) (invariants_hold t after (post_of (key_of t k)))

-- ---- the first limit of a group that does not hold
pub first_outside : (t : List ℕ) (group n : ℕ) (clocks : List ℕ) → limits_hold t group n clocks ≡ false
    → FirstOutside t group n clocks (lowest n (limit_holds t group clocks))
unfolding limits_hold limit_holds
first_outside t group n clocks h =
    let says = lowest_says (limit_holds t group clocks) n in
    let low = says.low in
    let there : lowest n (limit_holds t group clocks) < n = ⊎_elim
    (λ (e : lowest n (limit_holds t group clocks) ≡ n). never (sym h ∙ lowest_all (limit_holds t group clocks) n e))
    (λ (m : lowest n (limit_holds t group clocks) < n). m)
    (eq-or-lt_of_le low) in
    record { there = there; outside = says.fails there; before = says.holds }

-- ---- which one is told: by what fails
module _ (t clocks after : List ℕ) (k : ℕ) where
  pub number_limit : (f : ℕ) → f ≡ limit_fails → number_for t clocks after k f ≡ lowest (limit_count t k) (limit_holds t k clocks)
  unfolding number_for
  number_limit f e = rw e

  pub number_invariant : (f : ℕ) → f ≡ invariant_fails
      → number_for t clocks after k f
      ≡ lowest (invariant_count t (post_of (key_of t k))) (limit_holds t (invariant_group (post_of (key_of t k))) after)
  unfolding number_for
  number_invariant f e = rw e
