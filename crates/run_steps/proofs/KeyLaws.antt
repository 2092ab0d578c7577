-- Laws of candidates by their keys: a transition has a key exactly if it has its parts.
use Prim.Native.Nat.{ℕ, ◌/◌, ◌%◌, ◌<◌, ◌≤◌, ◌-◌}
use mathlib.Core.Path.{◌≡◌, refl, sym, ◌∙◌, ap}
use mathlib.Core.Bool.{Bool, true, false}
use mathlib.Core.List.{List}
use native.Mathlib.Omega.{arith}
use native.Mathlib.Decide.{ℕ_discrete}
use Rattle.laws.proofs.Tests.{eqb_same}
use lib.Dec.{eqb}
use borrow.Author.Tests.{eqb-true, eq-eqb, ne_eqb}
use Rattle.laws.specs.Below.{◌and◌, any_below}
use Rattle.laws.proofs.BelowLaws.{and_first, and_rest, and_both, and_yes, and_no}
use Rattle.grammar.specs.declared.values.Slot.{Slot}
use Rattle.graph_tables.specs.Sizes.{location_room, word32}
use Rattle.graph_tables.specs.Words.{key_of, pre_of, action_of, post_of, key_with}
use Rattle.run_steps.specs.Steps.{passes_of, leaves_by, leads_of}
use Rattle.run_steps.proofs.AnyLaws.{any_never}

-- ---- the parts of a key
-- a key is its post below, and the action and the location that it leaves above
upper : (x : ℕ) → pre_of x ≡ x / location_room / word32
upper x = omega arith

joined : (x y : ℕ) → x / location_room ≡ y / location_room → x % location_room ≡ y % location_room → x ≡ y
joined x y h k = omega arith

above : (x y : ℕ) → x / word32 ≡ y / word32 → x % word32 ≡ y % word32 → x ≡ y
above x y h k = omega arith

pub parts_same : (x y : ℕ) → pre_of x ≡ pre_of y → action_of x ≡ action_of y → post_of x ≡ post_of y → x ≡ y
parts_same x y p a q = joined x y (above (x / location_room) (y / location_room) (sym (upper x) ∙ p ∙ upper y) a) q

pub record Asked (key l a m : ℕ) : Type 0 where
  pub pre : pre_of key ≡ l
  pub action : action_of key ≡ a
  pub post : post_of key ≡ m

pub asked : (key l a m : ℕ) → key ≡ key_with l a m → a < word32 → m < location_room → Asked key l a m
asked key l a m e h k = record { pre = omega arith; action = omega arith; post = omega arith }

-- ---- what a test of the key says
untrue : (b : Bool) → (b ≡ true → ⊥) → false ≡ b
untrue true h = absurd (h refl)
untrue false h = refl

module _ (t : List ℕ) (vars : List Slot) (clocks after : List ℕ) where
  pub other_key : (key k : ℕ) → (key_of t k ≡ key → ⊥) → false ≡ leads_of t vars clocks after (pre_of key) (action_of key) (post_of key) k
  unfolding leads_of leaves_by
  other_key key k h =
      untrue _
      (λ e.
      let l = and_first _ _ e in
      let post = and_first _ _ (and_rest _ _ e) in
      h (parts_same (key_of t k) key (eqb-true _ _ (and_first _ _ l)) (eqb-true _ _ (and_rest _ _ l)) (eqb-true _ _ post)))

  pub same_key : {r : Bool} (key k : ℕ) → key_of t k ≡ key → r ≡ passes_of t vars clocks after k
      → r ≡ leads_of t vars clocks after (pre_of key) (action_of key) (post_of key) k
  unfolding leads_of leaves_by
  same_key key k e h =
      rw (← e)
      (and_yes (and_both (eq-eqb (pre_of (key_of t k)) _ refl) (eq-eqb (action_of (key_of t k)) _ refl))
      (and_yes (eq-eqb (post_of (key_of t k)) _ refl) h))

  pub asked_leads : {r : Bool} (key l a m k : ℕ) → key ≡ key_with l a m → a < word32 → m < location_room
      → r ≡ leads_of t vars clocks after (pre_of key) (action_of key) (post_of key) k → r ≡ leads_of t vars clocks after l a m k
  asked_leads key l a m k e h q led = let x = asked key l a m e h q in rw (x.pre, x.action, x.post) at led

  -- no transition goes to a post that has no place in a key
  pub no_way : (n pre action post : ℕ) → location_room ≤ post → any_below n (leads_of t vars clocks after pre action post) ≡ false
  unfolding leads_of
  no_way n pre action post h =
      any_never _ n
      (λ k l.
      sym (untrue _
      (λ e.
      let q : post_of (key_of t k) ≡ post = eqb-true _ _ (and_first _ _ (and_rest _ _ e)) in
      absurd (omega arith))))

-- ---- leaving a location by an action: both stand in the first key that such a transition may have
pub leaves_parts : {r : Bool} {first pre action : ℕ} → Asked first pre action 0 → (t : List ℕ) (k : ℕ)
    → r ≡ leaves_by t (pre_of first) (action_of first) k → r ≡ leaves_by t pre action k
leaves_parts {first = first} {pre = pre} s t k h =
    h ∙ ap (λ (x : ℕ). leaves_by t x (action_of first) k) s.pre ∙ ap (λ (x : ℕ). leaves_by t pre x k) s.action

-- one comparison tests both: a key less its post is the first one exactly if its other parts are
module _ (x y : ℕ) (z : post_of y ≡ 0) where
  front : x - post_of x ≡ y → x / location_room ≡ y / location_room
  front e = omega (arith, e, z)

  back : x / location_room ≡ y / location_room → x - post_of x ≡ y
  back e = omega (arith, e, z)

  one_test : eqb (x - post_of x) y ≡ (eqb (pre_of x) (pre_of y) and eqb (action_of x) (action_of y))
  one_test = by (ℕ_discrete (pre_of x) (pre_of y))
    where
      by : Dec (pre_of x ≡ pre_of y) → eqb (x - post_of x) y ≡ (eqb (pre_of x) (pre_of y) and eqb (action_of x) (action_of y))
      by (yes p) =
          and_yes (eq-eqb _ _ p)
          (eqb_same (x - post_of x) y (action_of x) (action_of y) (λ e. ap (λ (n : ℕ). n % word32) (front e))
          (λ a. back (above (x / location_room) (y / location_room) (sym (upper x) ∙ p ∙ upper y) a)))
      by (no h) =
          ne_eqb (x - post_of x) y (λ e. h (upper x ∙ ap (λ (n : ℕ). n / word32) (front e) ∙ sym (upper y))) ∙ and_no _ (ne_eqb _ _ h)

pub leaves_first : (t : List ℕ) (first k : ℕ) → post_of first ≡ 0
    → eqb (key_of t k - post_of (key_of t k)) first ≡ leaves_by t (pre_of first) (action_of first) k
unfolding leaves_by
leaves_first t first k z = one_test (key_of t k) first z
