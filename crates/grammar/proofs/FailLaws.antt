-- Each operation on values of its kinds fails or has a value.
use Prim.Native.Nat.{ℕ, zero, suc, ◌≤◌, ◌<◌}
use mathlib.Core.Path.{◌≡◌, refl, sym, ap, subst}
use mathlib.Core.Logic.{◌⊎◌, inl, inr}
use mathlib.Core.Bool.{Bool, true, false, not, cond, ◌&&◌, ◌||◌}
use mathlib.Core.List.{List, [], ◌∷◌}
use native.Mathlib.Decide.{dec_lt}
use native.Mathlib.Omega.{arith}
use borrow.Author.Tests.{ne_eqb, lt-ltb}
use lib.IntN.{ℤ, pos, negsuc, ◌+ℤ◌, ◌-ℤ◌, ◌*ℤ◌}
use lib.ListN.{length, get_or}
use lib.Signed.{lt_z, le_z, quot_z, rem_z}
use Rattle.grammar.specs.Values.{kind_of, same_val}
use Rattle.grammar.specs.Typing.{Kinded, of, ill, takes2, alike, kinded_at, unary_kind, binary_kind, variable_kind}
use Rattle.grammar.specs.Arith.{least, most, is_zero, fitted, sum_of, difference_of, product_of, quotient_of, remainder_of}
use Rattle.grammar.specs.Evaluation.{blank, boolean, bools, ints, same_of, unary_of, values_of, variable_of}
use Rattle.grammar.specs.Failing.{Outside, IntegersFail, PairFails, NegationFails}
use Rattle.grammar.specs.declared.values.«Type».{«Type» as Kind}
use Rattle.grammar.specs.declared.values.Val.{Val}
use Rattle.grammar.specs.declared.values.Val.TheVariants.{Boolean, Integer}
use Rattle.grammar.specs.declared.values.Slot.{Slot}
use Rattle.grammar.specs.declared.items.Unary.TheVariants.{Not, Negate}
use Rattle.grammar.specs.declared.items.Binary.{Binary}
use Rattle.grammar.specs.declared.items.Binary.TheVariants.{And, Or, Add, Subtract, Multiply, Divide, Remainder, Equal, Less}
use Rattle.grammar.specs.declared.items.Binary.TheVariants.{LessOrEqual}
use Rattle.std.specs.Prelude.{Option, Some, None}
use Rattle.grammar.proofs.Sound.{Of, Fit}

-- a new operand is ill-typed; or it has no value, and F holds; or it has a value of its kind, and F does not hold
pub data Result (e : Option Val) (k : Kinded) (F : Type 0) : Type 0 where
  bad : k ≡ ill → Result e k F
  fails : e ≡ None → F → Result e k F
  has : (v : Val) → e ≡ Some v → k ≡ of (kind_of v) → (F → ⊥) → Result e k F

pub same_result : {e : Option Val} {k : Kinded} {F G : Type 0} → (F → G) → (G → F) → Result e k F → Result e k G
same_result f g (bad b) = bad b
same_result f g (fails e h) = fails e (f h)
same_result f g (has v e k n) = has v e k (λ h. n (g h))

-- ---- integers
fit_by : (s t : Bool) (z : ℤ)
    → Result (cond s None (cond t None (Some (Integer z)))) (of Kind.Integer) ((s ≡ true) ⊎ (t ≡ true))
fit_by true t z = fails refl (inl refl)
fit_by false true z = fails refl (inr refl)
fit_by false false z = has (Integer z) refl refl neither
  where
    neither : (false ≡ true) ⊎ (false ≡ true) → ⊥
    neither (inl e) = let z : ◌≡◌ {A = ℕ} 0 1 = cc in absurd (omega arith)
    neither (inr e) = let z : ◌≡◌ {A = ℕ} 0 1 = cc in absurd (omega arith)

fitted_result : (z : ℤ) → Result (fitted z) (of Kind.Integer) (Outside z)
fitted_result z = fit_by (lt_z z least) (lt_z most z) z

right : {A B : Type 0} → (A → ⊥) → A ⊎ B → B
right n (inl a) = absurd (n a)
right n (inr b) = b

divided_result : (b z : ℤ) → Result (cond (is_zero b) None (fitted z)) (of Kind.Integer) ((b ≡ pos 0) ⊎ Outside z)
divided_result (pos zero) z = fails refl (inl refl)
divided_result (pos (suc n)) z = rw (ne_eqb (suc n) 0 (λ e. omega arith)) (same_result inr (right other) (fitted_result z))
  where
    other : pos (suc n) ≡ pos 0 → ⊥
    other e = let z : suc n ≡ 0 = cc in omega arith
divided_result (negsuc n) z = same_result inr (right other) (fitted_result z)
  where
    other : negsuc n ≡ pos 0 → ⊥
    other e = let z : ◌≡◌ {A = ℕ} 0 1 = cc in absurd (omega arith)

ints_result : (f : ℤ → ℤ → Option Val) (r : Kind) (F : ℤ → ℤ → Type 0) → ((x y : ℤ) → Result (f x y) (of r) (F x y)) → (a b : Val)
    → Result (ints f a b) (takes2 Kind.Integer r (of (kind_of a)) (of (kind_of b))) (PairFails F a b)
ints_result f r F ok (Integer x) (Integer y) = ok x y
ints_result f r F ok (Integer x) (Boolean y) = bad refl
ints_result f r F ok (Boolean x) (Integer y) = bad refl
ints_result f r F ok (Boolean x) (Boolean y) = bad refl

-- ---- booleans, and two of one kind
bools_result : (f : Bool → Bool → Bool) (F : ℤ → ℤ → Type 0) (a b : Val)
    → Result (bools f a b) (takes2 Kind.Boolean Kind.Boolean (of (kind_of a)) (of (kind_of b))) (PairFails F a b)
bools_result f F (Boolean x) (Boolean y) = has (Boolean (f x y)) refl refl (λ h. h)
bools_result f F (Boolean x) (Integer y) = bad refl
bools_result f F (Integer x) (Boolean y) = bad refl
bools_result f F (Integer x) (Integer y) = bad refl

same_kinds : (a b : Val) → Result (same_of a b) (alike (of (kind_of a)) (of (kind_of b))) (PairFails (IntegersFail Equal) a b)
same_kinds (Boolean x) (Boolean y) = has (Boolean (same_val (Boolean x) (Boolean y))) refl refl (λ h. h)
same_kinds (Integer x) (Integer y) = has (Boolean (same_val (Integer x) (Integer y))) refl refl (λ h. h)
same_kinds (Boolean x) (Integer y) = bad refl
same_kinds (Integer x) (Boolean y) = bad refl

-- ---- the operations
pub binary_result : (o : Binary) (a b : Val)
    → Result (values_of o a b) (binary_kind o (of (kind_of a)) (of (kind_of b))) (PairFails (IntegersFail o) a b)
binary_result And a b = bools_result ◌&&◌ (IntegersFail And) a b
binary_result Or a b = bools_result ◌||◌ (IntegersFail Or) a b
binary_result Add a b = ints_result sum_of Kind.Integer (IntegersFail Add) (λ x y. fitted_result (x +ℤ y)) a b
binary_result Subtract a b = ints_result difference_of Kind.Integer (IntegersFail Subtract) (λ x y. fitted_result (x -ℤ y)) a b
binary_result Multiply a b = ints_result product_of Kind.Integer (IntegersFail Multiply) (λ x y. fitted_result (x *ℤ y)) a b
binary_result Divide a b = ints_result quotient_of Kind.Integer (IntegersFail Divide) (λ x y. divided_result y (quot_z x y)) a b
binary_result Remainder a b = ints_result remainder_of Kind.Integer (IntegersFail Remainder) (λ x y. divided_result y (rem_z x y)) a b
binary_result Equal a b = same_kinds a b
binary_result Less a b =
    ints_result (λ x y. boolean (lt_z x y)) Kind.Boolean (IntegersFail Less) (λ x y. has (Boolean (lt_z x y)) refl refl (λ h. h)) a b
binary_result LessOrEqual a b =
    ints_result (λ x y. boolean (le_z x y)) Kind.Boolean (IntegersFail LessOrEqual) (λ x y. has (Boolean (le_z x y)) refl refl (λ h. h)) a b

pub not_result : (a : Val) → Result (unary_of Not (Some a)) (unary_kind Not (of (kind_of a))) ⊥
not_result (Boolean x) = has (Boolean (not x)) refl refl (λ h. h)
not_result (Integer x) = bad refl

pub negate_result : (a : Val) → Result (unary_of Negate (Some a)) (unary_kind Negate (of (kind_of a))) (NegationFails a)
negate_result (Integer x) = fitted_result (pos 0 -ℤ x)
negate_result (Boolean x) = bad refl

-- ---- a variable that has a kind has a value of it
past : (xs : List ℕ) (n d : ℕ) → length xs ≤ n → get_or xs n d ≡ d
past [] n d h = refl
past (x ∷ xs) zero d h = absurd (omega arith)
past (x ∷ xs) (suc n) d h = past xs n d (omega arith)

held : (v : Val) (k : Kinded) → Of (Some v) k → Result (Some v) k ⊥
held v (of j) h = has v refl (ap of (sym h)) (λ x. x)
held v ill h = bad refl

pub variable_result : (vars : List Slot) (kinds : List ℕ) → Fit vars kinds → length kinds ≤ 16 → (n : ℕ)
    → Result (variable_of vars n) (variable_kind kinds n) ⊥
unfolding Fit
variable_result vars kinds fit few n = by (dec_lt n 16)
  where
    by : Dec (n < 16) → Result (variable_of vars n) (variable_kind kinds n) ⊥
    by (yes l) =
        let e : variable_of vars n ≡ Some (get_or vars n blank).value =
        ap (λ (t : Bool). cond t (Some (get_or vars n blank).value) None) (lt-ltb n 16 l) in
        subst (λ (x : Option Val). Result x (variable_kind kinds n) ⊥) (sym e)
        (held (get_or vars n blank).value (variable_kind kinds n) (subst (λ (x : Option Val). Of x (variable_kind kinds n)) e (fit n)))
    by (no l) = bad (ap kinded_at (past kinds n 2 (omega arith)))
