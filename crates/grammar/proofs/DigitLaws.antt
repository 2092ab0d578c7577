-- Operands that wait as digits, and what a step leaves of them.
use Prim.Native.Nat.{ℕ, suc, ◌+◌, ◌-◌, ◌*◌, ◌/◌, ◌%◌, ◌^◌, ◌≤◌, ◌<◌}
use mathlib.Core.Path.{◌≡◌, refl, ap, ◌∙◌}
use mathlib.Core.List.{List, [], ◌∷◌}
use native.Mathlib.Decide.{dec_lt}
use native.Mathlib.Nat.{pow-suc, pow-le-pow_right, zero-lt-suc}
use native.Mathlib.Omega.{arith}
use lib.Dec.{lit<, lit≤}
use lib.ListN.{length}
use Rattle.grammar.specs.Values.{kind_word}
use Rattle.grammar.specs.Items.{item_of}
use Rattle.grammar.specs.Run.{Step, push, change, join, run_of, size_of}
use Rattle.grammar.specs.Typing.{Kinded, of, ill, takes1, takes2, alike, kind_step, kind_steps, judged}
use Rattle.grammar.specs.Inner.{digits_of, digits_with, left_of}
use Rattle.grammar.specs.declared.values.«Type».{«Type» as Kind}
use Rattle.grammar.specs.declared.values.«Type».TheVariants.{Boolean, Integer}
use Rattle.grammar.specs.declared.typing.Typed.TheVariants.{IllTyped}
use Rattle.grammar.proofs.PlaneLaws.{order}
use Rattle.grammar.proofs.IllLaws.{ill_typed}

-- ---- the lowest digits say whether one or two operands are of a kind
pub one_fits : (k : Kind) (ks : List Kind) (s : ℕ) → s ≡ digits_of ks → s % 4 ≡ kind_word k + 1 → s ≡ left_of (change (takes1 k k)) ks
unfolding digits_of left_of
one_fits Boolean [] s e m = absurd (omega arith)
one_fits Boolean (Boolean ∷ ks) s e m = e
one_fits Boolean (Integer ∷ ks) s e m = absurd (omega arith)
one_fits Integer [] s e m = absurd (omega arith)
one_fits Integer (Boolean ∷ ks) s e m = absurd (omega arith)
one_fits Integer (Integer ∷ ks) s e m = e

pub one_unfit : (k : Kind) (ks : List Kind) (s : ℕ) → s ≡ digits_of ks → (s % 4 ≡ kind_word k + 1 → ⊥) → 0 ≡ left_of (change (takes1 k k)) ks
unfolding digits_of left_of
one_unfit Boolean [] s e n = refl
one_unfit Boolean (Boolean ∷ ks) s e n = absurd (n (omega arith))
one_unfit Boolean (Integer ∷ ks) s e n = refl
one_unfit Integer [] s e n = refl
one_unfit Integer (Boolean ∷ ks) s e n = refl
one_unfit Integer (Integer ∷ ks) s e n = absurd (n (omega arith))

pub both_fit : (k r : Kind) (ks : List Kind) (s x : ℕ) → s ≡ digits_of ks → s % 16 ≡ 5 * kind_word k + 5 → x ≡ s / 16 * 4 + kind_word r + 1
    → x ≡ left_of (join (takes2 k r)) ks
unfolding digits_of left_of
both_fit Boolean r [] s x e m q = absurd (omega arith)
both_fit Boolean r (Boolean ∷ []) s x e m q = absurd (omega arith)
both_fit Boolean r (Integer ∷ []) s x e m q = absurd (omega arith)
both_fit Boolean r (Boolean ∷ Boolean ∷ ks) s x e m q = omega arith
both_fit Boolean r (Boolean ∷ Integer ∷ ks) s x e m q = absurd (omega arith)
both_fit Boolean r (Integer ∷ Boolean ∷ ks) s x e m q = absurd (omega arith)
both_fit Boolean r (Integer ∷ Integer ∷ ks) s x e m q = absurd (omega arith)
both_fit Integer r [] s x e m q = absurd (omega arith)
both_fit Integer r (Boolean ∷ []) s x e m q = absurd (omega arith)
both_fit Integer r (Integer ∷ []) s x e m q = absurd (omega arith)
both_fit Integer r (Boolean ∷ Boolean ∷ ks) s x e m q = absurd (omega arith)
both_fit Integer r (Boolean ∷ Integer ∷ ks) s x e m q = absurd (omega arith)
both_fit Integer r (Integer ∷ Boolean ∷ ks) s x e m q = absurd (omega arith)
both_fit Integer r (Integer ∷ Integer ∷ ks) s x e m q = omega arith

pub both_unfit : (k r : Kind) (ks : List Kind) (s : ℕ) → s ≡ digits_of ks → (s % 16 ≡ 5 * kind_word k + 5 → ⊥)
    → 0 ≡ left_of (join (takes2 k r)) ks
unfolding digits_of left_of
both_unfit Boolean r [] s e n = refl
both_unfit Boolean r (b ∷ []) s e n = refl
both_unfit Boolean r (Boolean ∷ Boolean ∷ ks) s e n = absurd (n (omega arith))
both_unfit Boolean r (Boolean ∷ Integer ∷ ks) s e n = refl
both_unfit Boolean r (Integer ∷ Boolean ∷ ks) s e n = refl
both_unfit Boolean r (Integer ∷ Integer ∷ ks) s e n = refl
both_unfit Integer r [] s e n = refl
both_unfit Integer r (b ∷ []) s e n = refl
both_unfit Integer r (Boolean ∷ Boolean ∷ ks) s e n = refl
both_unfit Integer r (Boolean ∷ Integer ∷ ks) s e n = refl
both_unfit Integer r (Integer ∷ Boolean ∷ ks) s e n = refl
both_unfit Integer r (Integer ∷ Integer ∷ ks) s e n = absurd (n (omega arith))

-- the = on two integers, and on two that are not both integers
pub alike_integers : (ks : List Kind) (s : ℕ) → s ≡ digits_of ks → s % 16 ≡ 10
    → left_of (join (takes2 Integer Boolean)) ks ≡ left_of (join alike) ks
unfolding digits_of left_of
alike_integers [] s e m = refl
alike_integers (b ∷ []) s e m = refl
alike_integers (Boolean ∷ Boolean ∷ ks) s e m = absurd (omega arith)
alike_integers (Boolean ∷ Integer ∷ ks) s e m = refl
alike_integers (Integer ∷ Boolean ∷ ks) s e m = refl
alike_integers (Integer ∷ Integer ∷ ks) s e m = refl

pub alike_booleans : (ks : List Kind) (s : ℕ) → s ≡ digits_of ks → (s % 16 ≡ 10 → ⊥)
    → left_of (join (takes2 Boolean Boolean)) ks ≡ left_of (join alike) ks
unfolding digits_of left_of
alike_booleans [] s e n = refl
alike_booleans (b ∷ []) s e n = refl
alike_booleans (Boolean ∷ Boolean ∷ ks) s e n = refl
alike_booleans (Boolean ∷ Integer ∷ ks) s e n = refl
alike_booleans (Integer ∷ Boolean ∷ ks) s e n = refl
alike_booleans (Integer ∷ Integer ∷ ks) s e n = absurd (n (omega arith))

-- = < and <= on two integers
pub compared : (ks : List Kind) (s w : ℕ) → s ≡ digits_of ks → s % 16 ≡ 10 → 10 ≤ w → w < 13 → s / 4 - 1 ≡ left_of (kind_step [] (item_of w)) ks
unfolding item_of
compared ks s w e m h l = by (dec_lt 10 w)
  where
    c : s / 4 - 1 ≡ left_of (join (takes2 Integer Boolean)) ks
    c = both_fit Integer Boolean ks s (s / 4 - 1) e m (omega arith)

    by : Dec (10 < w) → s / 4 - 1 ≡ left_of (kind_step [] (item_of w)) ks
    by (yes g) = rw (order w g l) c
    by (no g) =
        let q : w ≡ 10 = omega arith in
        rw q (c ∙ alike_integers ks s e m)

-- ---- how many wait, by their digits
pub word_small : (k : Kind) → kind_word k ≤ 1
word_small Boolean = lit≤ tt
word_small Integer = lit≤ tt

digits_below : (ks : List Kind) → digits_of ks < 4 ^ length ks
unfolding digits_of
digits_below [] = lit< tt
digits_below (k ∷ ks) = omega (arith, digits_below ks, pow-suc 4 (length ks), word_small k)

digits_from : (ks : List Kind) → 4 ^ length ks ≤ 4 * digits_of ks + 1
unfolding digits_of
digits_from [] = lit≤ tt
digits_from (k ∷ ks) = omega (arith, digits_from ks, pow-suc 4 (length ks))

pub full : (ks : List Kind) → 1073741824 ≤ digits_of ks → 16 ≤ length ks
full ks h = by (dec_lt (length ks) 16)
  where
    by : Dec (length ks < 16) → 16 ≤ length ks
    by (yes l) =
        let p : 4 ^ length ks ≤ 4 ^ 15 = pow-le-pow_right (zero-lt-suc 3) {j = 15} (omega arith) in absurd (omega (arith, digits_below ks))
    by (no l) = omega arith

pub not_full : (ks : List Kind) → digits_of ks < 1073741824 → length ks < 16
not_full ks h = by (dec_lt (length ks) 16)
  where
    by : Dec (length ks < 16) → length ks < 16
    by (yes l) = l
    by (no l) =
        let p : 4 ^ 16 ≤ 4 ^ length ks = pow-le-pow_right (zero-lt-suc 3) {i = 16} (omega arith) in absurd (omega (arith, digits_from ks))

-- ---- the run goes on from what a step leaves, and fails where it leaves none
unfoldable pub stack_of : List Kind → List Kinded
stack_of [] = []
stack_of (k ∷ ks) = of k ∷ stack_of ks

record Kept (x : Kinded) (ks : List Kind) (r : ℕ) : Type 0 where
  kind : Kind
  same : of kind ≡ x
  held : r ≡ digits_of (kind ∷ ks)

kept : (x : Kinded) (ks : List Kind) (r : ℕ) → r ≡ digits_with x (digits_of ks) → 1 ≤ r → Kept x ks r
unfolding digits_of
kept (of k) ks r e h = record { kind = k; same = refl; held = e }
kept ill ks r e h = absurd (omega arith)

gone : (x : Kinded) (s : ℕ) → 0 ≡ digits_with x s → x ≡ ill
gone (of k) s e = absurd (omega arith)
gone ill s e = refl

pub record After (i : Step Kinded) (ks : List Kind) (r : ℕ) : Type 0 where
  pub kinds : List Kind
  pub held : r ≡ digits_of kinds
  pub sized : length kinds ≡ length ks - size_of i + 1
  pub goes : (steps : List (Step Kinded)) → run_of steps (stack_of kinds) ≡ run_of (i ∷ steps) (stack_of ks)

made : (i : Step Kinded) (ks ls : List Kind) (x : Kinded) (r : ℕ) → r ≡ digits_with x (digits_of ls) → 1 ≤ r
    → suc (length ls) ≡ length ks - size_of i + 1
    → ((steps : List (Step Kinded)) → run_of steps (x ∷ stack_of ls) ≡ run_of (i ∷ steps) (stack_of ks)) → After i ks r
unfolding stack_of
made i ks ls x r e h s g =
    let q = kept x ls r e h in
    record {
      kinds = q.kind ∷ ls;
      held = q.held;
      sized = s;
      goes = λ steps. ap (λ (y : Kinded). run_of steps (y ∷ stack_of ls)) q.same ∙ g steps;
    }

pub goes_on : (i : Step Kinded) (ks : List Kind) (r : ℕ) → r ≡ left_of i ks → 1 ≤ r → After i ks r
unfolding left_of run_of stack_of
goes_on (push k) ks r e h = made (push k) ks ks k r e h (omega arith) (λ steps. refl)
goes_on (change f) [] r e h = absurd (omega arith)
goes_on (change f) (a ∷ ks) r e h = made (change f) (a ∷ ks) ks (f (of a)) r e h (omega arith) (λ steps. refl)
goes_on (join f) [] r e h = absurd (omega arith)
goes_on (join f) (b ∷ []) r e h = absurd (omega arith)
goes_on (join f) (b ∷ a ∷ ks) r e h = made (join f) (b ∷ a ∷ ks) ks (f (of a) (of b)) r e h (omega arith) (λ steps. refl)

module _ (deep : ℕ) (kinds ws : List ℕ) where
  ill_next : (x : Kinded) (ks : List Kind) → 0 ≡ digits_with x (digits_of ks)
      → judged (run_of (kind_steps kinds ws) (x ∷ stack_of ks)) deep ≡ IllTyped
  ill_next x ks e =
      ap (λ (y : Kinded). judged (run_of (kind_steps kinds ws) (y ∷ stack_of ks)) deep) (gone x (digits_of ks) e)
      ∙ ill_typed deep kinds ws ill (stack_of ks) (lit< tt)

  pub fails : (i : Step Kinded) (ks : List Kind) → 0 ≡ left_of i ks → judged (run_of (i ∷ kind_steps kinds ws) (stack_of ks)) deep ≡ IllTyped
  unfolding left_of run_of stack_of
  fails (push k) ks e = ill_next k ks e
  fails (change f) [] e = refl
  fails (change f) (a ∷ ks) e = ill_next (f (of a)) ks e
  fails (join f) [] e = refl
  fails (join f) (b ∷ []) e = refl
  fails (join f) (b ∷ a ∷ ks) e = ill_next (f (of a) (of b)) ks e
