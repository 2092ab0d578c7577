-- Laws of `and`, and of tests of every number below a bound, for loops that test one number a turn: none tested, one more,
-- one that decides, all tested.
use Prim.Native.Nat.{ℕ, zero, suc, ◌+◌, ◌<◌, ◌≤◌}
use mathlib.Core.Path.{◌≡◌, refl, sym, ap, subst, ◌∙◌}
use mathlib.Core.Bool.{Bool, true, false}
use mathlib.Core.Logic.{⊎_elim}
use native.Mathlib.Nat.{le_of_suc-le-suc, not-suc-le-zero, eq-or-lt_of_le, le_antisymm}
use native.Mathlib.Numerals.{add-one}
use native.Mathlib.Omega.{arith}
use Rattle.laws.specs.Below.{◌and◌, all_below, sum_below}

-- a chain of tests `a and b and ..`, of which each `return` of the code knows the first few
pub and_yes : {a r q : Bool} → a ≡ true → r ≡ q → r ≡ (a and q)
unfolding ◌and◌
and_yes {q = q} e k = k ∙ ap (λ (b : Bool). b and q) (sym e)

pub and_no : {a : Bool} (q : Bool) → a ≡ false → false ≡ (a and q)
unfolding ◌and◌
and_no q e = ap (λ (b : Bool). b and q) (sym e)

pub and_false : (a : Bool) → (a and false) ≡ false
unfolding ◌and◌
and_false true = refl
and_false false = refl

-- what a chain that holds says of its parts
pub and_first : (a b : Bool) → (a and b) ≡ true → a ≡ true
unfolding ◌and◌
and_first true b h = refl
and_first false b h = h

pub and_rest : (a b : Bool) → (a and b) ≡ true → b ≡ true
unfolding ◌and◌
and_rest true b h = h
and_rest false true h = refl
and_rest false false h = h

pub and_both : {a b : Bool} → a ≡ true → b ≡ true → (a and b) ≡ true
and_both e f = sym (and_yes e (sym f))

pub and_kept : {a b c d : Bool} → (a ≡ true → c ≡ true) → (b ≡ true → d ≡ true) → (a and b) ≡ true → (c and d) ≡ true
and_kept f g h = and_both (f (and_first _ _ h)) (g (and_rest _ _ h))

module _ (p : ℕ → Bool) where
  pub all_none : all_below 0 p ≡ true
  unfolding all_below
  all_none = refl

  pub all_more : (i : ℕ) → all_below i p ≡ true → p i ≡ true → all_below (i + 1) p ≡ true
  unfolding all_below ◌and◌
  all_more i h e = rw (add-one i, h) e

  pub all_fails : (n i : ℕ) → i < n → p i ≡ false → all_below n p ≡ false
  unfolding all_below ◌and◌
  all_fails zero i l e = absurd (not-suc-le-zero l)
  all_fails (suc n) i l e =
      ⊎_elim
      (λ (q : i ≡ n). ap (λ (b : Bool). all_below n p and b) (ap p (sym q) ∙ e) ∙ and_false (all_below n p))
      (λ (m : i < n). ap (λ (b : Bool). b and p n) (all_fails n i m e))
      (eq-or-lt_of_le (le_of_suc-le-suc l))

  pub all_done : (n i : ℕ) → i ≤ n → n ≤ i → all_below i p ≡ true → all_below n p ≡ true
  all_done n i l m h = subst (λ (k : ℕ). all_below k p ≡ true) (le_antisymm l m) h

  pub all_at : (n i : ℕ) → all_below n p ≡ true → i < n → p i ≡ true
  unfolding all_below ◌and◌
  all_at zero i h l = absurd (not-suc-le-zero l)
  all_at (suc n) i h l =
      ⊎_elim
      (λ (q : i ≡ n). ap p q ∙ and_rest (all_below n p) (p n) h)
      (λ (m : i < n). all_at n i (and_first (all_below n p) (p n) h) m)
      (eq-or-lt_of_le (le_of_suc-le-suc l))

  pub all_from : (n : ℕ) → ((i : ℕ) → i < n → p i ≡ true) → all_below n p ≡ true
  unfolding all_below
  all_from zero h = refl
  all_from (suc n) h = and_both (all_from n (λ i l. h i (omega arith))) (h n (omega arith))

pub all_kept : (p q : ℕ → Bool) (n : ℕ) → ((i : ℕ) → i < n → p i ≡ true → q i ≡ true) → all_below n p ≡ true → all_below n q ≡ true
all_kept p q n f h = all_from q n (λ i l. f i l (all_at p n i h l))

-- a sum over the numbers below a bound
pub sum_none : (f : ℕ → ℕ) → sum_below 0 f ≡ 0
unfolding sum_below
sum_none f = refl

pub sum_more : (f : ℕ → ℕ) (i : ℕ) → sum_below (i + 1) f ≡ sum_below i f + f i
unfolding sum_below
sum_more f i = ap (λ (n : ℕ). sum_below n f) (add-one i)

pub sum_same : (f g : ℕ → ℕ) (n : ℕ) → ((i : ℕ) → i < n → f i ≡ g i) → sum_below n f ≡ sum_below n g
unfolding sum_below
sum_same f g zero h = refl
sum_same f g (suc n) h = cc (sum_same f g n (λ i l. h i (omega arith)), h n (omega arith))
