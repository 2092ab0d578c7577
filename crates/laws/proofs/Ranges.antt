-- What `any` over a range answers, said by the test of every number below a bound.
use mathlib.Core.Logic.{⊎_elim}
use native.Mathlib.Nat.{eq-or-lt_of_le}
use Rattle.std.proofs.Common.{◌≡◌, ℕ, zero, suc, ◌||◌, ◌<◌, List, length, refl, ap, sym, ◌∙◌, arith, Bool, true, false, subst, zero-add}
use Rattle.std.specs.List.{range_with_len, AllWithin, HoldsAt, FoldsTo}
use Rattle.std.specs.Option.{MatchOption}
use Rattle.std.specs.Bool.{MatchBool}
use Rattle.std.specs.Fn.{Called}
use Rattle.std.specs.Iterator.{YieldsThen}
use Rattle.std.specs.declared.ops.Range.{Range}
use Rattle.std.proofs.Common.{Option}
use Rattle.std.proofs.iter.Yields.{nat_range_steps}
use Rattle.std.proofs.lemmas.Iterator.{YieldsList-from_range, cases_from_any}
use Rattle.std.proofs.lemmas.List.FromFn.{length-range_with_len, get_or-range_with_len}
use denote.Param.Members.{Mut}
use Rattle.laws.specs.Below.{any_below}

any_from : (p : ℕ → Bool) (n : ℕ) → ((i : ℕ) → i < n → p i ≡ false) → any_below n p ≡ false
unfolding any_below
any_from p zero h = refl
any_from p (suc n) h = rw (any_from p n (λ i l. h i (omega arith)), h n (omega arith))

any_holds : (p : ℕ → Bool) (n i : ℕ) → i < n → p i ≡ true → any_below n p ≡ true
unfolding any_below
any_holds p zero i l e = absurd (omega arith)
any_holds p (suc n) i l e =
    ⊎_elim
    (λ (q : i ≡ n). ap (λ (b : Bool). any_below n p || b) (ap p (sym q) ∙ e) ∙ or_true (any_below n p))
    (λ (m : i < n). ap (λ (b : Bool). b || p n) (any_holds p n i m e))
    (eq-or-lt_of_le {n = i} {m = n} (omega arith))
  where
    or_true : (b : Bool) → (b || true) ≡ true
    or_true true = refl
    or_true false = refl

module _ {F : Type 0} {g : Mut F (ℕ × Unit {0}) Bool} (s u : Range ℕ) (f : F) (r : Bool) (n : ℕ) (p : ℕ → Bool) where
  pub any_range : (xs : List ℕ) × (o : Option ℕ) × (j : F) × YieldsThen nat_range_steps s xs o u × FoldsTo (λ p x q. Called g p (x, tt) false q) f xs j × MatchOption o (r ≡ false) (λ x. (r ≡ true) × ((h : F) × Called g j (x, tt) true h))
      → s ≡ record { start = 0; end = n }
      → ((x : ℕ) (q : F) → Called g f (x, tt) true q → p x ≡ true) → ((x : ℕ) (q : F) → Called g f (x, tt) false q → (q ≡ f) × (p x ≡ false))
      → r ≡ any_below n p
  any_range d e y n0 = by r (cases_from_any u f r (λ x. p x ≡ true) (λ x. p x ≡ false) d (YieldsList-from_range 0 n n e (omega arith)) y n0)
    where
      by : (b : Bool) → MatchBool b ((k : ℕ) × (k < length (range_with_len 0 n)) × HoldsAt (λ x. p x ≡ true) (range_with_len 0 n) k) (AllWithin (λ x. p x ≡ false) (range_with_len 0 n) 0 (length (range_with_len 0 n))) → b ≡ any_below n p
      by false h = sym (any_from p n (λ i l. subst (λ x. p x ≡ false) (get_or-range_with_len 0 n i 0 l ∙ zero-add i) (h i 0 (omega arith) (omega (arith, length-range_with_len 0 n)))))
      by true h = sym (any_holds p n h.0 (omega (arith, h.1, length-range_with_len 0 n)) (subst (λ x. p x ≡ true) (get_or-range_with_len 0 n h.0 0 (omega (arith, h.1, length-range_with_len 0 n)) ∙ zero-add h.0) (h.2 0)))

-- `(0..n).any(..)`, where the closure is the test p and is left as it was
pub any_in_range : {F : Type 0} {g : Mut F (ℕ × Unit {0}) Bool} {u : Range ℕ} {f : F} {r : Bool} (p : ℕ → Bool) (n : ℕ)
    → (xs : List ℕ) × (o : Option ℕ) × (j : F) × YieldsThen nat_range_steps (record { start = 0; end = n }) xs o u
    × FoldsTo (λ p x q. Called g p (x, tt) false q) f xs j
    × MatchOption o (r ≡ false) (λ x. (r ≡ true) × ((h : F) × Called g j (x, tt) true h))
    → ((x : ℕ) (b : Bool) (t : F) → Called g f (x, tt) b t → (t ≡ f) × (b ≡ p x))
    → r ≡ any_below n p
any_in_range {u = u} {f = f} {r = r} p n ran closure =
    any_range _ u f r n p ran refl (λ x q k. sym (closure x true q k).1)
    (λ x q k. let one = closure x false q k in (one.0, sym one.1))
