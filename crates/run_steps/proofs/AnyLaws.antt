-- Laws of any_below, for loops that look for one number: none tested, one more, one that is found, all tested; and which one there is.
use Prim.Native.Nat.{ℕ, zero, suc, ◌+◌, ◌<◌, ◌≤◌}
use mathlib.Core.Path.{◌≡◌, refl, sym, ap, subst, ◌∙◌}
use mathlib.Core.Bool.{Bool, true, false, ◌||◌, or-true}
use mathlib.Core.Logic.{◌⊎◌, inl, inr, ⊎_elim}
use native.Mathlib.Nat.{le_of_suc-le-suc, not-suc-le-zero, eq-or-lt_of_le, le_antisymm}
use native.Mathlib.Numerals.{add-one}
use native.Mathlib.Omega.{arith}
use Rattle.laws.specs.Below.{all_below, any_below}
use Rattle.laws.proofs.Tests.{never}

pub either : (a b : Bool) → (a || b) ≡ true → (a ≡ true) ⊎ (b ≡ true)
either true b h = inl refl
either false b h = inr h

module _ (p : ℕ → Bool) where
  pub any_none : any_below 0 p ≡ false
  unfolding any_below
  any_none = refl

  pub any_more : (i : ℕ) → any_below i p ≡ false → p i ≡ false → any_below (i + 1) p ≡ false
  unfolding any_below
  any_more i h e = rw (add-one i, h) e

  pub any_found : (n i : ℕ) → i < n → p i ≡ true → any_below n p ≡ true
  unfolding any_below
  any_found zero i l e = absurd (not-suc-le-zero l)
  any_found (suc n) i l e =
      ⊎_elim
      (λ (q : i ≡ n). ap (λ (b : Bool). any_below n p || b) (ap p (sym q) ∙ e) ∙ or-true (any_below n p))
      (λ (m : i < n). ap (λ (b : Bool). b || p n) (any_found n i m e))
      (eq-or-lt_of_le (le_of_suc-le-suc l))

  pub any_never : (n : ℕ) → ((i : ℕ) → i < n → p i ≡ false) → any_below n p ≡ false
  unfolding any_below
  any_never zero h = refl
  any_never (suc n) h = rw (any_never n (λ i l. h i (omega arith))) (h n (omega arith))

  pub any_done : (n i : ℕ) → i ≤ n → n ≤ i → any_below i p ≡ false → any_below n p ≡ false
  any_done n i l m h = subst (λ (k : ℕ). any_below k p ≡ false) (le_antisymm l m) h

  pub any_some : (n : ℕ) → any_below n p ≡ true → (i : ℕ) × (i < n) × (p i ≡ true)
  unfolding any_below
  any_some zero h = never h
  any_some (suc n) h =
      ⊎_elim
      (λ (e : any_below n p ≡ true). let r = any_some n e in (r.0, omega arith, r.2))
      (λ (e : p n ≡ true). (n, omega arith, e))
      (either (any_below n p) (p n) h)

-- ---- two tests that are the same below a bound
pub all_same_lem : (p q : ℕ → Bool) (n : ℕ) → ((i : ℕ) → i < n → p i ≡ q i) → all_below n p ≡ all_below n q
unfolding all_below
all_same_lem p q zero h = refl
all_same_lem p q (suc n) h = cc (all_same_lem p q n (λ i l. h i (omega arith)), h n (omega arith))

pub any_same : (p q : ℕ → Bool) (n : ℕ) → ((i : ℕ) → i < n → p i ≡ q i) → any_below n p ≡ any_below n q
unfolding any_below
any_same p q zero h = refl
any_same p q (suc n) h = cc (any_same p q n (λ i l. h i (omega arith)), h n (omega arith))
