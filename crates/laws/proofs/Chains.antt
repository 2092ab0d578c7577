-- What `all` over a range or over a part of a slice answers, said by the test of every number below a bound; and what `from_fn` makes.
use Rattle.std.proofs.Common.{ℕ, zero, suc, ◌+◌, ◌-◌, ◌<◌, ◌≤◌, ◌≡◌, Bool, true, false, ◌&&◌, List, [], ◌∷◌, ◌++◌, length, get_or, take, drop, refl, sym, ap, ◌∙◌, add-zero, arith}
use Rattle.std.proofs.iter.Yields.{fronts, nat_range_steps}
use Rattle.std.proofs.lemmas.Iterator.{YieldsList-from_range, YieldsList-from_slice}
use Rattle.std.proofs.lemmas.Iterator.Search.{all_from_yields_List}
use Rattle.std.proofs.lemmas.List.Edits.{between_more}
use Rattle.std.proofs.lemmas.List.Folds.{list_all-append}
use Rattle.std.specs.Fn.{Called}
use Rattle.std.specs.Iterator.{YieldsThen}
use Rattle.std.specs.List.{range_with_len, list_all, FoldsTo}
use Rattle.std.specs.Option.{MatchOption}
use Rattle.std.specs.Slice.Iter.{iter_rest}
use Rattle.std.specs.declared.option.Option.{Option}
use Rattle.std.specs.declared.ops.Range.{Range}
use Rattle.std.specs.declared.slice.Iter.{Iter}
use Rattle.std.specs.Array.{IsFromFnResultFrom, IsFromFnResult}
use native.Mathlib.Nat.{eq-or-lt_of_le}
use mathlib.Core.Logic.{⊎_elim}
use mathlib.Core.Path.{subst}
use denote.Param.Members.{Mut}
use denote.Ref.{Bor}
use Rattle.laws.specs.Below.{◌and◌, all_below}

-- ---- lists
and_is : (b c : Bool) → (b && c) ≡ (b and c)
unfolding ◌and◌
and_is true c = refl
and_is false c = refl

and_true : (b : Bool) → (b && true) ≡ b
and_true true = refl
and_true false = refl

-- the numbers of a range
range_last : (n a : ℕ) → range_with_len a (suc n) ≡ range_with_len a n ++ ((a + n) ∷ [])
range_last zero a = ap (λ k. k ∷ []) (sym (add-zero a))
range_last (suc n) a =
    let e : (a + 1) + n ≡ a + suc n = omega arith in
    ap (λ l. a ∷ l) (rw e at (range_last n (a + 1)))

list_all_below : (p : ℕ → Bool) (n : ℕ) → list_all p (range_with_len 0 n) ≡ all_below n p
unfolding all_below
list_all_below p zero = refl
list_all_below p (suc n) =
    let e : 0 + n ≡ n = omega arith in
    ap (list_all p) (range_last n 0)
    ∙ (list_all-append p (range_with_len 0 n) ((0 + n) ∷ []) ∙ rw (list_all_below p n, and_true, e) (and_is _ _))

-- n elements from a place on
list_all_at : {A : Type 0} (p : A → Bool) (d : A) (xs : List A) (at n : ℕ) → at + n ≤ length xs
    → list_all p (take n (drop at xs)) ≡ all_below n (λ i. p (get_or xs (at + i) d))
unfolding all_below
list_all_at p d xs at zero h = refl
list_all_at p d xs at (suc n) h =
    let e : at + n + 1 - at ≡ suc n = omega arith in
    let f : at + n - at ≡ n = omega arith in
    let more = rw (e, f) at (between_more xs at (at + n) d (omega arith) (omega arith)) in
    ap (list_all p) more
    ∙ (list_all-append p (take n (drop at xs)) (get_or xs (at + n) d ∷ []) ∙ rw (list_all_at p d xs at n (omega arith), and_true) (and_is _ _))

-- ---- the calls; each closure is the test p, and is left as it was
-- `(0..n).all(..)`, where the closure is the test p and is left as it was
pub all_in_range : {F : Type 0} {g : Mut F (ℕ × Unit {0}) Bool} {u : Range ℕ} {f : F} {r : Bool} (p : ℕ → Bool) (n : ℕ)
    → (xs : List ℕ) × (o : Option ℕ) × (j : F) × YieldsThen nat_range_steps (record { start = 0; end = n }) xs o u
    × FoldsTo (λ q x t. Called g q (x, tt) true t) f xs j
    × MatchOption o (r ≡ true) (λ x. (r ≡ false) × ((h : F) × Called g j (x, tt) false h))
    → ((x : ℕ) (b : Bool) (t : F) → Called g f (x, tt) b t → (t ≡ f) × (b ≡ p x))
    → r ≡ all_below n p
all_in_range {u = u} {f = f} {r = r} p n ran closure =
    all_from_yields_List p u f r ran (YieldsList-from_range 0 n n refl (omega arith)) closure ∙ list_all_below p n

-- `s[at..at + n].iter().all(..)`, with d for an element that is not there
pub all_in_part : {A F : Type 0} {g : Mut F (Bor A × Unit {0}) Bool} {s u : Iter A} {f : F} {r : Bool} (p : A → Bool) (d : A) (l : List A) (at n : ℕ)
    → (xs : List (Bor A)) × (o : Option (Bor A)) × (j : F) × YieldsThen fronts s xs o u
    × FoldsTo (λ q x t. Called g q (x, tt) true t) f xs j
    × MatchOption o (r ≡ true) (λ x. (r ≡ false) × ((h : F) × Called g j (x, tt) false h))
    → iter_rest s ≡ take n (drop at l) → at + n ≤ length l
    → ((x : Bor A) (b : Bool) (t : F) → Called g f (x, tt) b t → (t ≡ f) × (b ≡ p x.now))
    → r ≡ all_below n (λ i. p (get_or l (at + i) d))
all_in_part {u = u} {f = f} {r = r} p d l at n ran rest h closure =
    all_from_yields_List p u f r ran (YieldsList-from_slice _ rest) closure ∙ list_all_at p d l at n h

-- `array::from_fn(..)`, where the closure gives h of the index and is left as it was
module _ {F B : Type 0} {g : Mut F (ℕ × Unit {0}) B} {f : F} (h : ℕ → B) (ys : List B) (closure : (x : ℕ) (b : B) (t : F) → Called g f (x, tt) b t → (t ≡ f) × (b ≡ h x)) where
  from_fn_from : (n i : ℕ) (p : F) → p ≡ f → IsFromFnResultFrom g p ys i n → (k : ℕ) (d : B) → i ≤ k → k < i + n → get_or ys k d ≡ h k
  from_fn_from zero i p e r k d l m = absurd (omega arith)
  from_fn_from (suc n) i p e r k d l m =
      let given = closure i r.1 r.0 (subst (λ (w : F). Called g w (i, tt) r.1 r.0) e r.3) in
      ⊎_elim
      (λ (s : i ≡ k). rw (← s) (r.2.1 d ∙ given.1))
      (λ (s : i < k). from_fn_from n (i + 1) r.0 given.0 r.4 k d (omega arith) (omega arith))
      (eq-or-lt_of_le l)

  pub from_fn_at : (n : ℕ) → IsFromFnResult g f ys n → (k : ℕ) (d : B) → k < n → get_or ys k d ≡ h k
  from_fn_at n r k d l = from_fn_from n 0 f refl r.each k d (omega arith) (omega arith)
