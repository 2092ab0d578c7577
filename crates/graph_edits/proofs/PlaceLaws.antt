-- Laws of a place among rows: the numbers before it are at most k, the one at it is above k.
use mathlib.Core.Path.{◌≡◌, refl, subst}
use mathlib.Core.Bool.{Bool, true, false, cond}
use mathlib.Core.Logic.{⊎_elim}
use Prim.Native.Nat.{ℕ, zero, suc, ◌+◌, ◌<◌, ◌≤◌}
use native.Mathlib.Nat.{eq-or-lt_of_le}
use native.Mathlib.Omega.{arith}
use borrow.Author.Tests.{ltb-true, ltb-false}
use lib.Dec.{ltb}
use Rattle.graph_edits.specs.Rows.{place_from, place_of}

-- what a place p among m rows from row i on says
record Place (f : ℕ → ℕ) (k i m p : ℕ) : Type 0 where
  bound : p ≤ i + m
  above : p < i + m → k < f p
  below : (j : ℕ) → i ≤ j → j < p → f j ≤ k

place_from_lem : (f : ℕ → ℕ) (k i m : ℕ) → Place f k i m (place_from f k i m)
place_from_lem f k i zero = record { bound = omega arith; above = λ l. absurd (omega arith); below = λ j h l. absurd (omega arith) }
place_from_lem f k i (suc m) = by (ltb k (f i)) refl (place_from_lem f k (i + 1) m)
  where
    by : (b : Bool) → ltb k (f i) ≡ b → Place f k (i + 1) m (place_from f k (i + 1) m)
        → Place f k i (suc m) (cond b i (place_from f k (i + 1) m))
    by true e r = record { bound = omega arith; above = λ l. ltb-true k (f i) e; below = λ j h l. absurd (omega arith) }
    by false e r = record {
      bound = omega arith;
      above = λ l. r.above (omega arith);
      below = λ j h l.
          ⊎_elim
          (λ (q : i ≡ j). subst (λ (n : ℕ). f n ≤ k) q (ltb-false k (f i) e))
          (λ (q : i < j). r.below j (omega arith) l)
          (eq-or-lt_of_le h);
    }

module _ (f : ℕ → ℕ) (n k : ℕ) where
  pub place_bound : place_of f n k ≤ n
  place_bound = omega (arith, (place_from_lem f k 0 n).bound)

  pub place_above : place_of f n k < n → k < f (place_of f n k)
  place_above l = (place_from_lem f k 0 n).above (omega arith)

  pub place_below : (i : ℕ) → i < place_of f n k → f i ≤ k
  place_below i l = (place_from_lem f k 0 n).below i (omega arith) l

-- from row i on, numbers that agree have one place
same_from : (f g : ℕ → ℕ) (k i m : ℕ) → ((j : ℕ) → i ≤ j → j < i + m → f j ≡ g j) → place_from f k i m ≡ place_from g k i m
same_from f g k i zero e = refl
same_from f g k i (suc m) e = rw (e i (omega arith) (omega arith), same_from f g k (i + 1) m (λ j h l. e j (omega arith) (omega arith)))

pub place_same : (f g : ℕ → ℕ) (n k : ℕ) → ((i : ℕ) → i < n → f i ≡ g i) → place_of f n k ≡ place_of g n k
place_same f g n k e = same_from f g k 0 n (λ j h l. e j (omega arith))
