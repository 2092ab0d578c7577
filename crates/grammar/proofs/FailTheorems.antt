-- A typed expression has a value unless some operation divides by 0 or leaves 32 bits.
use Prim.Native.Nat.{ℕ, zero, suc, ◌/◌, ◌^◌, ◌≤◌, ◌<◌}
use mathlib.Core.Path.{◌≡◌, refl, sym, ap, ◌∙◌, subst}
use mathlib.Core.Logic.{◌⊎◌, inl, inr, ◌↔◌}
use mathlib.Core.Bool.{Bool, true, false}
use mathlib.Core.List.{List, [], ◌∷◌, map}
use native.Mathlib.Omega.{arith}
use borrow.Author.Tests.{le-leb}
use lib.Dec.{leb, lit<}
use lib.ListN.{length, get_or, take}
use Rattle.laws.specs.Ladder.{unless}
use Rattle.laws.proofs.Ladder.{passed}
use Rattle.grammar.specs.Values.{kind_of}
use Rattle.grammar.specs.Items.{Read, item, none, item_of, deepest}
use Rattle.grammar.specs.Draws.{draws_in}
use Rattle.grammar.specs.Run.{Step, push, change, join, Ran, gives, stuck, run_of}
use Rattle.grammar.specs.Typing.{Kinded, of, ill, kind_step, kind_steps, judged, type_of}
use Rattle.grammar.specs.Evaluation.{draw_of, unary_of, result_of, value_step, value_steps, value_of, evaluation_of}
use Rattle.grammar.specs.Failing.{ItemFails, stepped, waits_after, Fails}
use Rattle.grammar.specs.declared.values.«Type».{«Type» as Kind}
use Rattle.grammar.specs.declared.values.Val.{Val}
use Rattle.grammar.specs.declared.values.Slot.{Slot}
use Rattle.grammar.specs.declared.items.Unary.{Unary}
use Rattle.grammar.specs.declared.items.Unary.TheVariants.{Not, Negate}
use Rattle.grammar.specs.declared.items.Item.TheVariants as Item
use Rattle.grammar.specs.declared.typing.Typed.{Typed}
use Rattle.grammar.specs.declared.typing.Typed.TheVariants.{IllTyped}
use Rattle.std.specs.Prelude.{Option, Some, None}
use Rattle.grammar.proofs.IllLaws.{ill_typed}
use Rattle.grammar.proofs.Sound.{HasKind, Fit}
use Rattle.grammar.proofs.FailLaws.{Result, bad, fails, has, binary_result, not_result, negate_result, variable_result}
use Rattle.grammar.proofs.Theorems.{typed_operands, typed_value}

-- ---- once an operand has no value, the run has none
abbrev HasNone : List (Option Val) → Type 0
HasNone [] = ⊥
HasNone (Some v ∷ waiting) = HasNone waiting
HasNone (None ∷ waiting) = Unit {0}

still : (e : Option Val) (waiting : List (Option Val)) → HasNone waiting → HasNone (e ∷ waiting)
still (Some v) waiting h = h
still None waiting h = tt

abbrev Strict : Step (Option Val) → Type 0
Strict (push e) = Unit {0}
Strict (change f) = f None ≡ None
Strict (join f) = ((b : Option Val) → f None b ≡ None) × ((a : Val) → f (Some a) None ≡ None)

unary_strict : (u : Unary) → unary_of u None ≡ None
unary_strict Not = refl
unary_strict Negate = refl

module _ (vars : List Slot) where
  strict : (left : ℕ) (r : Read) → Strict (value_step vars left r)
  strict left (item (Item.Constant v)) = tt
  strict left (item (Item.Variable n)) = tt
  strict left (item (Item.Unary u)) = unary_strict u
  strict left (item (Item.Binary o)) = ((λ b. refl), (λ a. refl))
  strict left (item Item.Draw) = tt
  strict left none = tt

  module _ (steps : List (Step (Option Val)))
      (rest : (waiting : List (Option Val)) → HasNone waiting → result_of (run_of steps waiting) ≡ None) where
    one : (i : Step (Option Val)) → Strict i → (waiting : List (Option Val)) → HasNone waiting → result_of (run_of (i ∷ steps) waiting) ≡ None
    unfolding run_of
    one (push e) s waiting h = rest (e ∷ waiting) (still e waiting h)
    one (change f) s [] h = refl
    one (change f) s (Some a ∷ waiting) h = rest (f (Some a) ∷ waiting) (still (f (Some a)) waiting h)
    one (change f) s (None ∷ waiting) h = rw s (rest (None ∷ waiting) tt)
    one (join f) s [] h = refl
    one (join f) s (b ∷ []) h = refl
    one (join f) s (Some b ∷ Some a ∷ waiting) h = rest (f (Some a) (Some b) ∷ waiting) (still (f (Some a) (Some b)) waiting h)
    one (join f) s (Some b ∷ None ∷ waiting) h = rw (s.0 (Some b)) (rest (None ∷ waiting) tt)
    one (join f) s (None ∷ Some a ∷ waiting) h = rw (s.1 a) (rest (None ∷ waiting) tt)
    one (join f) s (None ∷ None ∷ waiting) h = rw (s.0 None) (rest (None ∷ waiting) tt)

  stays : (ws : List ℕ) (left : ℕ) (waiting : List (Option Val)) → HasNone waiting
      → result_of (run_of (value_steps vars left ws) waiting) ≡ None
  unfolding run_of value_steps
  stays [] left [] h = refl
  stays [] left (Some v ∷ []) h = absurd h
  stays [] left (None ∷ []) h = refl
  stays [] left (a ∷ b ∷ waiting) h = refl
  stays (w ∷ ws) left waiting h =
      let after = left / 2 ^ draws_in (item_of w) in
      one (value_steps vars after ws) (stays ws after) (value_step vars left (item_of w)) (strict left (item_of w)) waiting h

-- ---- an expression fails from here on, where these operands wait
record FailsFrom (vars : List Slot) (left : ℕ) (ws : List ℕ) (start : List (Option Val)) : Type 0 where
  place : ℕ
  inside : place < length ws
  values : List Val
  before : waits_after (value_steps vars left (take place ws)) start ≡ map Some values
  here : ItemFails (item_of (get_or ws place 0)) values

-- values from operands that have them
abbrev values_in : List (Option Val) → List Val
values_in [] = []
values_in (Some v ∷ es) = v ∷ values_in es
values_in (None ∷ es) = values_in es

values_back : (vs : List Val) → values_in (map Some vs) ≡ vs
values_back [] = refl
values_back (v ∷ vs) = ap (λ (l : List Val). v ∷ l) (values_back vs)

known_same : (us vs : List Val) → map Some us ≡ map Some vs → us ≡ vs
known_same us vs e = sym (values_back us) ∙ ap values_in e ∙ values_back vs

module _ (vars : List Slot) (left w : ℕ) (ws : List ℕ) (vs : List Val) where
  -- it fails at the first item or after it
  abbrev Next : Type 0
  Next = FailsFrom vars (left / 2 ^ draws_in (item_of w)) ws (stepped (value_step vars left (item_of w)) (map Some vs))

  first_or_next : FailsFrom vars left (w ∷ ws) (map Some vs) → ItemFails (item_of w) vs ⊎ Next
  unfolding waits_after value_steps
  first_or_next f = by f.place f.inside f.before f.here
    where
      by : (k : ℕ) → k < length (w ∷ ws) → waits_after (value_steps vars left (take k (w ∷ ws))) (map Some vs) ≡ map Some f.values
          → ItemFails (item_of (get_or (w ∷ ws) k 0)) f.values → ItemFails (item_of w) vs ⊎ Next
      by zero l b h = inl (subst (ItemFails (item_of w)) (sym (known_same vs f.values b)) h)
      by (suc k) l b h = inr (record { place = k; inside = omega arith; values = f.values; before = b; here = h })

  first_fails : ItemFails (item_of w) vs → FailsFrom vars left (w ∷ ws) (map Some vs)
  unfolding waits_after value_steps
  first_fails h = record { place = 0; inside = omega arith; values = vs; before = refl; here = h }

  next_fails : Next → FailsFrom vars left (w ∷ ws) (map Some vs)
  unfolding waits_after value_steps
  next_fails f =
      record { place = suc f.place; inside = omega (arith, f.inside); values = f.values; before = f.before; here = f.here }

  first_or_later : ItemFails (item_of w) vs ⊎ Next → FailsFrom vars left (w ∷ ws) (map Some vs)
  first_or_later (inl h) = first_fails h
  first_or_later (inr f) = next_fails f

-- ---- beside the run of the kinds
abbrev kinds_in : List Val → List Kinded
kinds_in [] = []
kinds_in (v ∷ vs) = of (kind_of v) ∷ kinds_in vs

pub no_ill : (kinds ws : List ℕ) (k : Kind) (waiting : List Kinded) → run_of (kind_steps kinds ws) (ill ∷ waiting) ≡ gives (of k) → ⊥
unfolding unless
no_ill kinds ws k waiting e =
    let z : Typed.Known k ≡ IllTyped = ap (λ (r : Ran Kinded). judged r 0) (sym e) ∙ ill_typed 0 kinds ws ill waiting (lit< tt) in
    let y : ◌≡◌ {A = ℕ} 0 1 = cc in absurd (omega arith)

-- a typed expression's run of kinds gives its kind
judged_run : (r : Ran Kinded) (deep : ℕ) (k : Kind) → judged r deep ≡ Typed.Known k → r ≡ gives (of k)
unfolding unless
judged_run (gives (of j)) deep k e = by (leb deep 16) e
  where
    by : (t : Bool) → unless t (Typed.TooDeep j) (Typed.Known j) ≡ Typed.Known k → gives (of j) ≡ gives (of k)
    by true d = cc
    by false d = let z : ◌≡◌ {A = ℕ} 0 1 = cc in absurd (omega arith)
judged_run (gives ill) deep k e = let z : ◌≡◌ {A = ℕ} 0 1 = cc in absurd (omega arith)
judged_run stuck deep k e = let z : ◌≡◌ {A = ℕ} 0 1 = cc in absurd (omega arith)

pub typed_run : (kinds ws : List ℕ) (k : Kind) → type_of kinds ws ≡ Typed.Known k → run_of (kind_steps kinds ws) [] ≡ gives (of k)
unfolding type_of unless
typed_run kinds ws k e = by (leb (length ws) 64) e
  where
    by : (t : Bool) → unless t Typed.TableFull (judged (run_of (kind_steps kinds ws) []) (deepest ws 0)) ≡ Typed.Known k
        → run_of (kind_steps kinds ws) [] ≡ gives (of k)
    by true d = judged_run (run_of (kind_steps kinds ws) []) (deepest ws 0) k d
    by false d = let z : ◌≡◌ {A = ℕ} 0 1 = cc in absurd (omega arith)

pub not_stuck : {A : Type 0} (a : A) → stuck ≡ gives a → ⊥
not_stuck a e = let z : ◌≡◌ {A = ℕ} 0 1 = cc in absurd (omega arith)

not_known : (v : Val) → Some v ≡ None → ⊥
not_known v e = let z : ◌≡◌ {A = ℕ} 0 1 = cc in absurd (omega arith)

module _ (vars : List Slot) (kinds : List ℕ) (fit : Fit vars kinds) (few : length kinds ≤ 16) (k : Kind) where
  -- no value exactly where it fails
  abbrev Exactly : List ℕ → ℕ → List (Option Val) → Type 0 → Type 0
  Exactly ws left waiting F = (result_of (run_of (value_steps vars left ws) waiting) ≡ None) ↔ F

  abbrev Rest : List ℕ → ℕ → Type 0
  Rest ws left =
      (vs : List Val) → run_of (kind_steps kinds ws) (kinds_in vs) ≡ gives (of k)
      → Exactly ws left (map Some vs) (FailsFrom vars left ws (map Some vs))

  module _ (ws : List ℕ) (left : ℕ) (rest : Rest ws left) where
    -- one new operand
    added : (e : Option Val) (j : Kinded) (F : Type 0) → Result e j F → (vs : List Val)
        → run_of (kind_steps kinds ws) (j ∷ kinds_in vs) ≡ gives (of k)
        → Exactly ws left (e ∷ map Some vs) (F ⊎ FailsFrom vars left ws (e ∷ map Some vs))
    added e j F (bad b) vs g =
        absurd (no_ill kinds ws k (kinds_in vs)
        (subst (λ (x : Kinded). run_of (kind_steps kinds ws) (x ∷ kinds_in vs) ≡ gives (of k)) b g))
    added e j F (fails z f) vs g = (
      (λ h. inl f),
      (λ h. subst (λ (x : Option Val). result_of (run_of (value_steps vars left ws) (x ∷ map Some vs)) ≡ None) (sym z)
          (stays vars ws left (None ∷ map Some vs) tt)),
    )
    added e j F (has v z y n) vs g =
        subst (λ (x : Option Val). Exactly ws left (x ∷ map Some vs) (F ⊎ FailsFrom vars left ws (x ∷ map Some vs))) (sym z)
        ((λ h. inr (r.0 h)), back)
      where
        r : Exactly ws left (map Some (v ∷ vs)) (FailsFrom vars left ws (map Some (v ∷ vs)))
        r = rest (v ∷ vs) (subst (λ (x : Kinded). run_of (kind_steps kinds ws) (x ∷ kinds_in vs) ≡ gives (of k)) y g)

        back : F ⊎ FailsFrom vars left ws (Some v ∷ map Some vs)
            → result_of (run_of (value_steps vars left ws) (Some v ∷ map Some vs)) ≡ None
        back (inl f) = absurd (n f)
        back (inr f) = r.1 f

    -- one item
    turn : (word : ℕ) (r : Read) (vs : List Val) → run_of (kind_step kinds r ∷ kind_steps kinds ws) (kinds_in vs) ≡ gives (of k)
        → (result_of (run_of (value_step vars word r ∷ value_steps vars left ws) (map Some vs)) ≡ None)
        ↔ (ItemFails r vs ⊎ FailsFrom vars left ws (stepped (value_step vars word r) (map Some vs)))
    unfolding run_of
    turn word (item (Item.Constant v)) vs g = added (Some v) (of (kind_of v)) ⊥ (has v refl refl (λ h. h)) vs g
    turn word (item (Item.Variable n)) vs g = added _ _ ⊥ (variable_result vars kinds fit few n) vs g
    turn word (item Item.Draw) vs g = added (draw_of word) _ ⊥ (has _ refl refl (λ h. h)) vs g
    turn word none vs g = absurd (no_ill kinds ws k (kinds_in vs) g)
    turn word (item (Item.Unary u)) [] g = absurd (not_stuck (of k) g)
    turn word (item (Item.Unary Not)) (a ∷ vs) g = added _ _ ⊥ (not_result a) vs g
    turn word (item (Item.Unary Negate)) (a ∷ vs) g = added _ _ _ (negate_result a) vs g
    turn word (item (Item.Binary o)) [] g = absurd (not_stuck (of k) g)
    turn word (item (Item.Binary o)) (b ∷ []) g = absurd (not_stuck (of k) g)
    turn word (item (Item.Binary o)) (b ∷ a ∷ vs) g = added _ _ _ (binary_result o a b) vs g

  -- all items: no value exactly where one fails
  whole : (ws : List ℕ) (left : ℕ) → Rest ws left
  unfolding run_of value_steps kind_steps
  whole [] left [] g = absurd (not_stuck (of k) g)
  whole [] left (v ∷ []) g = ((λ e. absurd (not_known v e)), (λ f. absurd (omega (arith, f.inside))))
  whole [] left (u ∷ v ∷ vs) g = absurd (not_stuck (of k) g)
  whole (w ∷ ws) left vs g =
      let after = left / 2 ^ draws_in (item_of w) in
      let here = turn ws after (whole ws after) left (item_of w) vs g in
      ((λ e. first_or_later vars left w ws vs (here.0 e)), (λ f. here.1 (first_or_next vars left w ws vs f)))

-- the same of a whole expression, where no operand waits before it
to_fails : {vars : List Slot} {word : ℕ} {ws : List ℕ} → FailsFrom vars word ws [] → Fails vars word ws
to_fails f = record { place = f.place; inside = f.inside; values = f.values; before = f.before; here = f.here }

from_fails : {vars : List Slot} {word : ℕ} {ws : List ℕ} → Fails vars word ws → FailsFrom vars word ws []
from_fails f = record { place = f.place; inside = f.inside; values = f.values; before = f.before; here = f.here }

module _ (vars : List Slot) (kinds : List ℕ) (fit : Fit vars kinds) (few : length kinds ≤ 16) (ws : List ℕ) (k : Kind)
    (typed : type_of kinds ws ≡ Typed.Known k) (word : ℕ) where
  value_is : (evaluation_of vars word ws).value ≡ result_of (run_of (value_steps vars word ws) [])
  unfolding evaluation_of value_of
  value_is = sym (passed None (le-leb (deepest ws 0) 16 (typed_operands kinds ws k typed)) refl)

  -- A typed expression, over at most 16 variables that hold values of their kinds, has no value exactly when some operation, on the
  -- values that the items before it gave, divides by 0 or has a result outside 32 bits;
  pub no_value_exactly : ((evaluation_of vars word ws).value ≡ None) ↔ Fails vars word ws
  no_value_exactly =
      let r = whole vars kinds fit few k ws word [] (typed_run kinds ws k typed) in
      ((λ e. to_fails (r.0 (sym value_is ∙ e))), (λ f. value_is ∙ r.1 (from_fails f)))

  -- and it has a value, of its kind, exactly when none does.
  pub value_exactly : ((v : Val) × (((evaluation_of vars word ws).value ≡ Some v) × (kind_of v ≡ k))) ↔ (Fails vars word ws → ⊥)
  unfolding evaluation_of
  value_exactly = (
    (λ h f. not_known h.0 (sym h.1.0 ∙ no_value_exactly.1 f)),
    (λ n. by n (evaluation_of vars word ws).value refl kind),
  )
    where
      kind : HasKind (evaluation_of vars word ws).value k
      kind = typed_value vars kinds fit ws k typed word

      by : (Fails vars word ws → ⊥) → (e : Option Val) → (evaluation_of vars word ws).value ≡ e → HasKind (evaluation_of vars word ws).value k
          → (v : Val) × (((evaluation_of vars word ws).value ≡ Some v) × (kind_of v ≡ k))
      by n (Some v) e h = (v, (e, subst (λ (x : Option Val). HasKind x k) e h))
      by n None e h = absurd (n (no_value_exactly.0 e))
