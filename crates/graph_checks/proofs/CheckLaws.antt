-- Laws of checks in their order, of which each `return` of the code knows the first few, and of what an accepted one says.
use Rattle.graph_tables.specs.Answers.{Answer, admitted}
use Rattle.std.specs.Prelude.{Ok, Err, ⊤}
use Rattle.std.specs.Result.{IsErrAnd}
use Rattle.std.specs.List.{range_with_len, sum}
use Rattle.std.proofs.lemmas.List.FromFn.{sum_by-map-range_with_len_more}
use Rattle.std.proofs.lemmas.Result.{err_from_is_err_and}
use Prim.Native.Nat.{ℕ, zero, suc, ◌+◌, ◌*◌, ◌<◌, ◌≤◌}
use mathlib.Core.Path.{◌≡◌, refl, sym, ap, subst, ◌∙◌}
use mathlib.Core.Bool.{Bool, true, false, not}
use mathlib.Core.List.{map}
use mathlib.Core.Logic.{⊎_elim}
use lib.Dec.{eqb}
use borrow.Author.Tests.{ne_eqb}
use native.Mathlib.Nat.{le_of_suc-le-suc, not-suc-le-zero, eq-or-lt_of_le, le_antisymm}
use native.Mathlib.Numerals.{add-one}
use native.Mathlib.Omega.{arith}
use Rattle.laws.specs.Below.{sum_below}
use Rattle.laws.specs.Ladder.{unless}
use Rattle.graph_tables.specs.declared.refusals.Refusal.{Refusal}
use Rattle.graph_checks.specs.Checks.{◌then◌, each_below}

pub refused_not : {r : Refusal} → Err r ≡ admitted → ⊥
refused_not e = let z : ◌≡◌ {A = ℕ} 0 1 = cc in absurd (omega arith)

-- a check that is passed, and one that refuses
pub then_on : {c r rest : Answer ⊤} → c ≡ admitted → r ≡ rest → r ≡ (c then rest)
then_on {rest = rest} e k = k ∙ ap (λ (d : Answer ⊤). d then rest) (sym e)

pub then_stops : {c : Answer ⊤} {q : Refusal} (rest : Answer ⊤) → c ≡ Err q → Err q ≡ (c then rest)
then_stops rest e = ap (λ (d : Answer ⊤). d then rest) (sym e)

-- a `?` that passes a refusal up gives that refusal
pub passed_up : {T : Type 0} {r : Answer T} {q : Refusal} → IsErrAnd r (λ (d : Refusal). d ≡ q) → r ≡ Err q
passed_up {r = r} h = let p = err_from_is_err_and r h in rw (p.1, p.2)

-- what an accepted answer says of its checks
pub unless_on : (b : Bool) (r : Refusal) (rest : Answer ⊤) → unless b (Err r) rest ≡ admitted → (b ≡ true) × (rest ≡ admitted)
unfolding unless
unless_on true r rest e = (refl, e)
unless_on false r rest e = absurd (refused_not e)

pub then_both : (c rest : Answer ⊤) → (c then rest) ≡ admitted → (c ≡ admitted) × (rest ≡ admitted)
then_both (Ok _) rest e = (refl, e)
then_both (Err r) rest e = absurd (refused_not e)

-- n checks: none, one more, one that refuses, all
module _ (f : ℕ → Answer ⊤) where
  pub each_none : each_below 0 f ≡ admitted
  unfolding each_below
  each_none = refl

  pub each_more : (i : ℕ) → each_below i f ≡ admitted → f i ≡ admitted → each_below (i + 1) f ≡ admitted
  unfolding each_below
  each_more i h e = ap (λ (n : ℕ). each_below n f) (add-one i) ∙ sym (then_on h (sym e))

  pub each_stops : (n i : ℕ) (r : Refusal) → i < n → each_below i f ≡ admitted → f i ≡ Err r → Err r ≡ each_below n f
  unfolding each_below
  each_stops zero i r l h e = absurd (not-suc-le-zero l)
  each_stops (suc n) i r l h e =
      ⊎_elim
      (λ (q : i ≡ n). then_on (subst (λ (k : ℕ). each_below k f ≡ admitted) q h) (sym (ap f (sym q) ∙ e)))
      (λ (m : i < n). then_stops (f n) (sym (each_stops n i r m h e)))
      (eq-or-lt_of_le (le_of_suc-le-suc l))

  pub each_done : (n i : ℕ) → i ≤ n → n ≤ i → each_below i f ≡ admitted → admitted ≡ each_below n f
  each_done n i l m h = sym (subst (λ (k : ℕ). each_below k f ≡ admitted) (le_antisymm l m) h)

  pub each_at : (n i : ℕ) → each_below n f ≡ admitted → i < n → f i ≡ admitted
  unfolding each_below
  each_at zero i h l = absurd (not-suc-le-zero l)
  each_at (suc n) i h l =
      ⊎_elim
      (λ (q : i ≡ n). ap f q ∙ (then_both (each_below n f) (f n) h).1)
      (λ (m : i < n). each_at n i (then_both (each_below n f) (f n) h).0 m)
      (eq-or-lt_of_le (le_of_suc-le-suc l))

-- the test that two numbers differ passes
pub other : {a b : ℕ} → (a ≡ b → ⊥) → not (eqb a b) ≡ true
other {a} {b} h = ap not (ne_eqb a b h)

-- the numbers below a bound, added up along a range; and what each of them bounds
pub sum_range : (f : ℕ → ℕ) (n : ℕ) → sum (map f (range_with_len 0 n)) ≡ sum_below n f
unfolding sum_below
sum_range f zero = refl
sum_range f (suc n) =
    let more = sum_by-map-range_with_len_more (λ (x : ℕ). x) f 0 n n (omega arith) in
    (rw add-one at more) ∙ ap (λ (a : ℕ). a + f n) (sum_range f n)

pub sum_at_most : (f : ℕ → ℕ) (n most : ℕ) → ((i : ℕ) → i < n → f i ≤ most) → sum_below n f ≤ n * most
unfolding sum_below
sum_at_most f zero most h = omega arith
sum_at_most f (suc n) most h = omega (arith, sum_at_most f n most (λ i l. h i (omega arith)), h n (omega arith))
