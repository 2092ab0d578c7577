-- Elements copied one by one.
use Prim.Native.Nat.{ℕ, ◌+◌, ◌<◌, ◌≤◌}
use mathlib.Core.Path.{◌≡◌, sym, ◌∙◌, subst}
use mathlib.Core.List.{List}
use mathlib.Core.Logic.{⊎_elim}
use native.Mathlib.Nat.{eq-or-lt_of_le}
use native.Mathlib.Omega.{arith}
use lib.ListN.{length, get_or, set}
use lib.Seq.{get_or-set_same, get_or-set_other, ext_get_or}

-- what holds below n and at n holds below n + 1
pub one_more : (P : ℕ → Type 0) (n : ℕ) → ((j : ℕ) → j < n → P j) → P n → (j : ℕ) → j < n + 1 → P j
one_more P n f x j l = ⊎_elim (λ (q : j ≡ n). subst P (sym q) x) (λ (m : j < n). f j m) (eq-or-lt_of_le {n = j} {m = n} (omega arith))

-- the first n elements are those of another list
module _ {A : Type 0} (d : A) where
  pub Filled : List A → List A → ℕ → Type 0
  Filled to from n = (j : ℕ) → j < n → get_or to j d ≡ get_or from j d

  pub filled_none : (to from : List A) → Filled to from 0
  unfolding Filled
  filled_none to from j h = absurd (omega arith)

  pub filled_more : (to from : List A) (n : ℕ) (x : A) → Filled to from n → n < length to → x ≡ get_or from n d
      → Filled (set to n x) from (n + 1)
  unfolding Filled
  filled_more to from n x f h e j l =
      ⊎_elim
      (λ (q : j ≡ n). rw q (get_or-set_same to n x d h ∙ e))
      (λ (m : j < n). get_or-set_other to n j x d (λ q. omega arith) ∙ f j m)
      (eq-or-lt_of_le {n = j} {m = n} (omega arith))

  pub filled_all : (to from : List A) (n : ℕ) → Filled to from n → length to ≡ length from → length from ≤ n → to ≡ from
  unfolding Filled
  filled_all to from n f e h = ext_get_or d to from e (λ i l. f i (omega arith))
