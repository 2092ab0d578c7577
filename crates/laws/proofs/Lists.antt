-- A list read from the front: what is left from a place on.
use Prim.Native.Nat.{ℕ, zero, suc, ◌+◌, ◌<◌, ◌≤◌}
use mathlib.Core.Path.{◌≡◌, sym, ap, ◌∙◌}
use mathlib.Core.List.{List, [], ◌∷◌}
use native.Mathlib.Numerals.{add-one}
use lib.ListN.{length, get_or, drop, set, replicate, drop_of_length-le}
use lib.Seq.{drop-cons}

module _ {A : Type 0} (d : A) (xs : List A) where
  pub next : (at : ℕ) → at < length xs → drop at xs ≡ get_or xs at d ∷ drop (at + 1) xs
  next at h = drop-cons xs at d h ∙ ap (λ (n : ℕ). get_or xs at d ∷ drop n xs) (sym (add-one at))

pub done : {A : Type 0} (xs : List A) (at : ℕ) → length xs ≤ at → drop at xs ≡ []
done xs at h = drop_of_length-le xs h

-- what holds of every element holds after a store of one of which it holds
pub all_set : {A : Type 0} (P : A → Type 0) (d : A) (xs : List A) (i : ℕ) (v : A) → ((k : ℕ) → P (get_or xs k d)) → P v → (k : ℕ)
    → P (get_or (set xs i v) k d)
all_set P d [] i v all p k = all k
all_set P d (x ∷ xs) zero v all p zero = p
all_set P d (x ∷ xs) zero v all p (suc k) = all (suc k)
all_set P d (x ∷ xs) (suc i) v all p zero = all zero
all_set P d (x ∷ xs) (suc i) v all p (suc k) = all_set P d xs i v (λ (j : ℕ). all (suc j)) p k

pub all_replicate : {A : Type 0} (P : A → Type 0) (d : A) (n : ℕ) (v : A) → P v → P d → (k : ℕ) → P (get_or (replicate n v) k d)
all_replicate P d zero v p q k = q
all_replicate P d (suc n) v p q zero = p
all_replicate P d (suc n) v p q (suc k) = all_replicate P d n v p q k
