-- What the lowest number says at which a test fails: it fails there and holds below. Where there is none, the test holds everywhere.
use Prim.Native.Nat.{ℕ, zero, suc, ◌<◌, ◌≤◌}
use mathlib.Core.Path.{◌≡◌, refl, sym, ◌∙◌}
use mathlib.Core.Bool.{Bool, true, false}
use mathlib.Core.Logic.{◌⊎◌, inl, inr, ⊎_elim}
use native.Mathlib.Nat.{le_of_suc-le-suc, not-suc-le-zero, eq-or-lt_of_le}
use native.Mathlib.Omega.{arith}
use lib.Dec.{ltb, eqb}
use borrow.Author.Tests.{lt-ltb, le-ltb, eq-eqb, ne_eqb}
use Rattle.laws.specs.Below.{◌and◌, all_below}
use Rattle.laws.proofs.BelowLaws.{and_first, and_rest, and_both, all_at, all_fails}
use Rattle.run_steps.specs.Lowest.{lowest}

-- what is said of k
pub record Lowest (n : ℕ) (p : ℕ → Bool) (k : ℕ) : Type 0 where
  pub low : k ≤ n
  pub holds : (i : ℕ) → i < k → p i ≡ true
  pub fails : k < n → p k ≡ false

module _ (p : ℕ → Bool) where
  -- ---- for loops that test one number a turn
  -- all hold
  pub lowest_none : (n : ℕ) → all_below n p ≡ true → lowest n p ≡ n
  unfolding lowest all_below
  lowest_none zero h = refl
  lowest_none (suc n) h =
      let e = lowest_none n (and_first (all_below n p) (p n) h) in
      let q : ltb (lowest n p) n ≡ false = le-ltb (lowest n p) n (omega arith) in
      rw (q, and_rest (all_below n p) (p n) h)

  -- one fails, and all below hold
  pub lowest_at : (n i : ℕ) → i < n → all_below i p ≡ true → p i ≡ false → lowest n p ≡ i
  unfolding lowest
  lowest_at zero i l h f = absurd (not-suc-le-zero l)
  lowest_at (suc n) i l h f =
      ⊎_elim
      (λ (e : i ≡ n).
      let none = lowest_none n (rw e at h) in
      let q : ltb (lowest n p) n ≡ false = le-ltb (lowest n p) n (omega arith) in
      rw (q, rw e at f) (sym e))
      (λ (m : i < n).
      let here = lowest_at n i m h f in
      let q : ltb (lowest n p) n ≡ true = lt-ltb (lowest n p) n (omega arith) in
      rw q here)
      (eq-or-lt_of_le (le_of_suc-le-suc l))

  -- ---- for readers
  -- all hold, or there is a first that fails
  first_fail : (n : ℕ) → (all_below n p ≡ true) ⊎ ((i : ℕ) × (i < n) × (all_below i p ≡ true) × (p i ≡ false))
  unfolding all_below
  first_fail zero = inl refl
  first_fail (suc n) = by (first_fail n) (p n) refl
    where
      by : (all_below n p ≡ true) ⊎ ((i : ℕ) × (i < n) × (all_below i p ≡ true) × (p i ≡ false)) → (b : Bool) → p n ≡ b
          → ((all_below n p and p n) ≡ true) ⊎ ((i : ℕ) × (i < suc n) × (all_below i p ≡ true) × (p i ≡ false))
      by (inr f) b e = inr (f.0, omega arith, f.2, f.3)
      by (inl h) true e = inl (and_both h e)
      by (inl h) false e = inr (n, omega arith, h, e)

  pub lowest_says : (n : ℕ) → Lowest n p (lowest n p)
  lowest_says n =
      ⊎_elim
      (λ (h : all_below n p ≡ true).
      let e = lowest_none n h in
      record { low = omega arith; holds = λ i l. all_at p n i h (omega arith); fails = λ l. absurd (omega arith) })
      (λ (f : (i : ℕ) × (i < n) × (all_below i p ≡ true) × (p i ≡ false)).
      let e = lowest_at n f.0 f.1 f.2 f.3 in
      record { low = omega (arith, f.1); holds = λ i l. all_at p f.0 i f.2 (omega arith); fails = λ l. rw e f.3 })
      (first_fail n)

  -- it is n exactly where all hold
  pub lowest_all : (n : ℕ) → lowest n p ≡ n → all_below n p ≡ true
  lowest_all n h =
      ⊎_elim
      (λ (a : all_below n p ≡ true). a)
      (λ (f : (i : ℕ) × (i < n) × (all_below i p ≡ true) × (p i ≡ false)).
      let e = lowest_at n f.0 f.1 f.2 f.3 in absurd (omega (arith, f.1)))
      (first_fail n)

  pub lowest_some : (n : ℕ) → lowest n p < n → all_below n p ≡ false
  lowest_some n h = all_fails p n (lowest n p) h ((lowest_says n).fails h)

  pub lowest_tells : (n : ℕ) → eqb (lowest n p) n ≡ all_below n p
  lowest_tells n =
      ⊎_elim
      (λ (h : all_below n p ≡ true). eq-eqb (lowest n p) n (lowest_none n h) ∙ sym h)
      (λ (f : (i : ℕ) × (i < n) × (all_below i p ≡ true) × (p i ≡ false)).
      let e = lowest_at n f.0 f.1 f.2 f.3 in
      ne_eqb (lowest n p) n (λ q. omega (arith, f.1)) ∙ sym (all_fails p n f.0 f.1 f.3))
      (first_fail n)
