-- A rung of a ladder, exactly when: its refusal is what is asked about, or it is not.
use Prim.Native.Nat.{ℕ, zero, suc, ◌<◌}
use mathlib.Core.Path.{◌≡◌, refl, sym}
use mathlib.Core.Bool.{Bool, true, false}
use mathlib.Core.Logic.{◌↔◌}
use native.Mathlib.Omega.{arith}
use Rattle.laws.specs.Below.{◌and◌, all_below}
use Rattle.laws.specs.Ladder.{unless}
use Rattle.laws.proofs.Tests.{never}

module _ {A : Type 0} (P : A → Type 0) (b : Bool) (x rest : A) where
  -- it is not: so exactly when the rung is passed and the rest is so
  pub rung_on : {Q : Type 0} → (P x → ⊥) → P rest ↔ Q → P (unless b x rest) ↔ ((b ≡ true) × Q)
  unfolding unless
  rung_on = by b
    where
      by : (c : Bool) {Q : Type 0} → (P x → ⊥) → P rest ↔ Q → P (unless c x rest) ↔ ((c ≡ true) × Q)
      by true n f = (λ p. (refl, f.0 p), λ q. f.1 q.1)
      by false n f = (λ p. absurd (n p), λ q. never q.0)

  -- it is, and the rest is not: exactly when the rung is not passed
  pub rung_here : P x → (P rest → ⊥) → P (unless b x rest) ↔ (b ≡ false)
  unfolding unless
  rung_here = by b
    where
      by : (c : Bool) → P x → (P rest → ⊥) → P (unless c x rest) ↔ (c ≡ false)
      by true p n = (λ q. absurd (n q), λ e. never (sym e))
      by false p n = (λ q. refl, λ e. p)

  -- it is not, and the rest is: exactly when the rung is passed
  pub rung_last : (P x → ⊥) → P rest → P (unless b x rest) ↔ (b ≡ true)
  unfolding unless
  rung_last = by b
    where
      by : (c : Bool) → (P x → ⊥) → P rest → P (unless c x rest) ↔ (c ≡ true)
      by true n p = (λ q. refl, λ e. p)
      by false n p = (λ q. absurd (n q), λ e. never e)

  -- neither is
  pub rung_none : (P x → ⊥) → (P rest → ⊥) → P (unless b x rest) → ⊥
  unfolding unless
  rung_none = by b
    where
      by : (c : Bool) → (P x → ⊥) → (P rest → ⊥) → P (unless c x rest) → ⊥
      by true m n = n
      by false m n = m

-- ---- equivalences
pub both_so : {A B C D : Type 0} → A ↔ B → C ↔ D → (A × C) ↔ (B × D)
both_so f g = (λ p. (f.0 p.0, g.0 p.1), λ p. (f.1 p.0, g.1 p.1))

-- what is so exactly when another is, where a third is
pub where_so : {A B C : Type 0} → (A → B ↔ C) → (A × B) ↔ (A × C)
where_so f = (λ p. (p.0, (f p.0).0 p.1), λ p. (p.0, (f p.0).1 p.1))

-- what is never so is so exactly when what is never so either is
pub never_so : {A B : Type 0} → (A → ⊥) → (B → ⊥) → A ↔ B
never_so f g = (λ a. absurd (f a), λ b. absurd (g b))

-- of two that are so together, the one is not so exactly when the other is not
pub not_either : {A B : Type 0} → A ↔ B → (A → ⊥) ↔ (B → ⊥)
not_either f = (λ n b. n (f.1 b), λ n a. n (f.0 a))

-- a test is false exactly when what it tests is not so
pub not_so : {A : Type 0} (b : Bool) → (b ≡ true) ↔ A → (b ≡ false) ↔ (A → ⊥)
not_so true f = (λ e a. never (sym e), λ n. absurd (n (f.0 refl)))
not_so false f = (λ e a. never (f.1 a), λ n. refl)

-- ---- tests below a bound
-- where not all hold, there is one that fails
pub all_missing : (p : ℕ → Bool) (n : ℕ) → all_below n p ≡ false → (i : ℕ) × (i < n) × (p i ≡ false)
unfolding all_below ◌and◌
all_missing p zero h = never (sym h)
all_missing p (suc n) h = by (all_below n p) (λ e. all_missing p n e) h
  where
    by : (b : Bool) → (b ≡ false → (i : ℕ) × (i < n) × (p i ≡ false)) → (b and p n) ≡ false → (i : ℕ) × (i < suc n) × (p i ≡ false)
    by true f k = (n, omega arith, k)
    by false f k = let x = f refl in (x.0, omega (arith, x.1), x.2)
