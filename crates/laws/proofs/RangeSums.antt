-- What a sum over a range answers, said by the definition over the numbers below a bound.
use Rattle.std.proofs.Common.{ℕ, zero, suc, ◌+◌, ◌≡◌, refl, ap, ◌∙◌, arith}
use Rattle.std.specs.Iterator.{Drains}
use Rattle.std.specs.List.{range_with_len, sum_by, fold}
use Rattle.std.specs.declared.option.Option.{Option}
use Rattle.std.proofs.lemmas.Iterator.{YieldsList}
use Rattle.std.proofs.lemmas.Iterator.Consumers.{sum_by_from_yields_List}
use mathlib.Core.List.{List, map}
use Rattle.laws.specs.Below.{sum_below}

-- the last of them apart
fold_last : (f : ℕ → ℕ) (n a s : ℕ)
    → fold (λ b x. b + f x) s (range_with_len a (suc n)) ≡ fold (λ b x. b + f x) s (range_with_len a n) + f (a + n)
fold_last f zero a s = ap (λ (k : ℕ). s + f k) (omega arith)
fold_last f (suc n) a s =
    let e : (a + 1) + n ≡ a + suc n = omega arith in
    rw e at (fold_last f n (a + 1) (s + f a))

pub sum_by_below : (f : ℕ → ℕ) (n : ℕ) → sum_by f (range_with_len 0 n) ≡ sum_below n f
unfolding sum_below
sum_by_below f zero = refl
sum_by_below f (suc n) =
    let e : 0 + n ≡ n = omega arith in
    rw (e, sum_by_below f n) at (fold_last f n 0 0)

-- `(0..n).map(..).sum()`, where the closure computes f
pub sum_in_range : {S : Type 0} {steps : S → Option ℕ → S → Type 0} (f : ℕ → ℕ) (n : ℕ) (s : S) (r : ℕ)
    → ((xs : List ℕ) × (Unit {0} → Drains steps s xs) × (r ≡ fold (λ a x. a + x) 0 xs))
    → YieldsList steps (λ x. x) s (map f (range_with_len 0 n)) → r ≡ sum_below n f
sum_in_range f n s r ran chain = sum_by_from_yields_List f _ s r ran chain ∙ sum_by_below f n
