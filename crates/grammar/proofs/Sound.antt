-- A well-typed expression has a value of its kind, or none: the run of the values and the run of the kinds go alike.
use Prim.Native.Nat.{ℕ, ◌/◌, ◌^◌}
use mathlib.Core.Path.{◌≡◌, refl}
use mathlib.Core.Bool.{Bool, true, false, cond, ◌&&◌, ◌||◌}
use mathlib.Core.List.{List, [], ◌∷◌}
use lib.IntN.{ℤ, pos, ◌+ℤ◌, ◌-ℤ◌, ◌*ℤ◌}
use lib.Signed.{lt_z, le_z, quot_z, rem_z}
use Rattle.grammar.specs.Values.{kind_of}
use Rattle.grammar.specs.Items.{Read, item, none, item_of}
use Rattle.grammar.specs.Draws.{draws_in}
use Rattle.grammar.specs.Run.{Step, push, change, join, Ran, gives, stuck, run_of}
use Rattle.grammar.specs.Typing.{Kinded, of, ill, takes2, alike, unary_kind, binary_kind, variable_kind, kind_step, kind_steps}
use Rattle.grammar.specs.Arith.{least, most, is_zero, fitted, sum_of, difference_of, product_of, quotient_of, remainder_of}
use Rattle.grammar.specs.Evaluation.{boolean, bools, ints, same_of, strict2, unary_of, binary_of, variable_of, value_step, value_steps}
use Rattle.grammar.specs.declared.values.«Type».{«Type» as Kind}
use Rattle.grammar.specs.declared.values.Val.TheVariants.{Boolean, Integer}
use Rattle.grammar.specs.declared.values.Slot.{Slot}
use Rattle.grammar.specs.declared.items.Unary.{Unary}
use Rattle.grammar.specs.declared.items.Unary.TheVariants.{Not, Negate}
use Rattle.grammar.specs.declared.items.Binary.{Binary}
use Rattle.grammar.specs.declared.items.Binary.TheVariants.{And, Or, Add, Subtract, Multiply, Divide, Remainder, Equal, Less}
use Rattle.grammar.specs.declared.items.Binary.TheVariants.{LessOrEqual}
use Rattle.grammar.specs.declared.items.Item.TheVariants as Item
use Rattle.std.specs.Prelude.{Option, Some, None}
use Rattle.grammar.specs.declared.values.Val.{Val}

-- no value, or one of this kind
abbrev pub HasKind : Option Val → Kind → Type 0
HasKind None k = Unit {0}
HasKind (Some v) k = kind_of v ≡ k

-- of an ill-typed operand nothing is said
abbrev pub Of : Option Val → Kinded → Type 0
Of e (of k) = HasKind e k
Of e ill = Unit {0}

-- ---- the runs go alike where the steps do
abbrev Alike : Step (Option Val) → Step Kinded → Type 0
Alike (push v) (push k) = Of v k
Alike (change f) (change g) = (v : Option Val) (k : Kinded) → Of v k → Of (f v) (g k)
Alike (join f) (join g) = (v w : Option Val) (k l : Kinded) → Of v k → Of w l → Of (f v w) (g k l)
Alike (push v) (change g) = ⊥
Alike (push v) (join g) = ⊥
Alike (change f) (push k) = ⊥
Alike (change f) (join g) = ⊥
Alike (join f) (push k) = ⊥
Alike (join f) (change g) = ⊥

abbrev AllOf : List (Option Val) → List Kinded → Type 0
AllOf [] [] = Unit {0}
AllOf (v ∷ vs) (k ∷ ks) = Of v k × AllOf vs ks
AllOf [] (k ∷ ks) = ⊥
AllOf (v ∷ vs) [] = ⊥

abbrev pub Agree : Ran (Option Val) → Ran Kinded → Type 0
Agree (gives v) (gives k) = Of v k
Agree stuck stuck = Unit {0}
Agree (gives v) stuck = ⊥
Agree stuck (gives k) = ⊥

module _ (is : List (Step (Option Val))) (js : List (Step Kinded))
    (rest : (vs : List (Option Val)) (ks : List Kinded) → AllOf vs ks → Agree (run_of is vs) (run_of js ks)) where
  one : (i : Step (Option Val)) (j : Step Kinded) → Alike i j → (vs : List (Option Val)) (ks : List Kinded) → AllOf vs ks
      → Agree (run_of (i ∷ is) vs) (run_of (j ∷ js) ks)
  unfolding run_of
  one (push v) (push k) a vs ks h = rest (v ∷ vs) (k ∷ ks) (a, h)
  one (change f) (change g) a [] [] h = tt
  one (change f) (change g) a (v ∷ vs) (k ∷ ks) h = rest (f v ∷ vs) (g k ∷ ks) (a v k h.0, h.1)
  one (change f) (change g) a [] (k ∷ ks) h = absurd h
  one (change f) (change g) a (v ∷ vs) [] h = absurd h
  one (join f) (join g) a [] [] h = tt
  one (join f) (join g) a (w ∷ []) (l ∷ []) h = tt
  one (join f) (join g) a (w ∷ v ∷ vs) (l ∷ k ∷ ks) h = rest (f v w ∷ vs) (g k l ∷ ks) (a v w k l h.1.0 h.0, h.1.1)
  one (join f) (join g) a [] (k ∷ ks) h = absurd h
  one (join f) (join g) a (v ∷ vs) [] h = absurd h
  one (join f) (join g) a (w ∷ []) (l ∷ k ∷ ks) h = absurd h.1
  one (join f) (join g) a (w ∷ v ∷ vs) (l ∷ []) h = absurd h.1
  one (push v) (change g) a vs ks h = absurd a
  one (push v) (join g) a vs ks h = absurd a
  one (change f) (push k) a vs ks h = absurd a
  one (change f) (join g) a vs ks h = absurd a
  one (join f) (push k) a vs ks h = absurd a
  one (join f) (change g) a vs ks h = absurd a

ended : (vs : List (Option Val)) (ks : List Kinded) → AllOf vs ks → Agree (run_of [] vs) (run_of [] ks)
unfolding run_of
ended [] [] h = tt
ended (u ∷ []) (k ∷ []) h = h.0
ended (u ∷ v ∷ vs) (k ∷ l ∷ ks) h = tt
ended [] (k ∷ ks) h = absurd h
ended (v ∷ vs) [] h = absurd h
ended (v ∷ []) (k ∷ l ∷ ks) h = absurd h.1
ended (u ∷ v ∷ vs) (k ∷ []) h = absurd h.1

-- ---- each operation goes alike
kind_cond : (t : Bool) (a b : Option Val) (k : Kind) → HasKind a k → HasKind b k → HasKind (cond t a b) k
kind_cond true a b k h l = h
kind_cond false a b k h l = l

fitted_kind : (z : ℤ) → HasKind (fitted z) Kind.Integer
fitted_kind z =
    kind_cond (lt_z z least) None (cond (lt_z most z) None (Some (Integer z))) Kind.Integer tt
    (kind_cond (lt_z most z) None (Some (Integer z)) Kind.Integer tt refl)

divided_kind : (y z : ℤ) → HasKind (cond (is_zero y) None (fitted z)) Kind.Integer
divided_kind y z = kind_cond (is_zero y) None (fitted z) Kind.Integer tt (fitted_kind z)

ints_alike : (f : ℤ → ℤ → Option Val) (r : Kind) → ((x y : ℤ) → HasKind (f x y) r)
    → Alike (join (strict2 (ints f))) (join (takes2 Kind.Integer r))
ints_alike f r ok (Some (Integer x)) (Some (Integer y)) (of Kind.Integer) (of Kind.Integer) h l = ok x y
ints_alike f r ok (Some (Integer x)) (Some (Boolean y)) (of Kind.Integer) (of Kind.Integer) h l = tt
ints_alike f r ok (Some (Integer x)) None (of Kind.Integer) (of Kind.Integer) h l = tt
ints_alike f r ok (Some (Boolean x)) (Some w) (of Kind.Integer) (of Kind.Integer) h l = tt
ints_alike f r ok (Some (Boolean x)) None (of Kind.Integer) (of Kind.Integer) h l = tt
ints_alike f r ok None w (of Kind.Integer) (of Kind.Integer) h l = tt
ints_alike f r ok v w (of Kind.Integer) (of Kind.Boolean) h l = tt
ints_alike f r ok v w (of Kind.Integer) ill h l = tt
ints_alike f r ok v w (of Kind.Boolean) (of m) h l = tt
ints_alike f r ok v w (of Kind.Boolean) ill h l = tt
ints_alike f r ok v w ill m h l = tt

bools_alike : (f : Bool → Bool → Bool) → Alike (join (strict2 (bools f))) (join (takes2 Kind.Boolean Kind.Boolean))
bools_alike f (Some (Boolean x)) (Some (Boolean y)) (of Kind.Boolean) (of Kind.Boolean) h l = refl
bools_alike f (Some (Boolean x)) (Some (Integer y)) (of Kind.Boolean) (of Kind.Boolean) h l = tt
bools_alike f (Some (Boolean x)) None (of Kind.Boolean) (of Kind.Boolean) h l = tt
bools_alike f (Some (Integer x)) (Some w) (of Kind.Boolean) (of Kind.Boolean) h l = tt
bools_alike f (Some (Integer x)) None (of Kind.Boolean) (of Kind.Boolean) h l = tt
bools_alike f None w (of Kind.Boolean) (of Kind.Boolean) h l = tt
bools_alike f v w (of Kind.Boolean) (of Kind.Integer) h l = tt
bools_alike f v w (of Kind.Boolean) ill h l = tt
bools_alike f v w (of Kind.Integer) (of m) h l = tt
bools_alike f v w (of Kind.Integer) ill h l = tt
bools_alike f v w ill m h l = tt

-- two of one kind give a boolean
same_kind_lem : (v w : Option Val) → HasKind (strict2 same_of v w) Kind.Boolean
same_kind_lem (Some (Boolean x)) (Some (Boolean y)) = refl
same_kind_lem (Some (Integer x)) (Some (Integer y)) = refl
same_kind_lem (Some (Boolean x)) (Some (Integer y)) = tt
same_kind_lem (Some (Integer x)) (Some (Boolean y)) = tt
same_kind_lem (Some (Boolean x)) None = tt
same_kind_lem (Some (Integer x)) None = tt
same_kind_lem None w = tt

same_alike : Alike (join (strict2 same_of)) (join alike)
same_alike v w (of Kind.Boolean) (of Kind.Boolean) h l = same_kind_lem v w
same_alike v w (of Kind.Integer) (of Kind.Integer) h l = same_kind_lem v w
same_alike v w (of Kind.Boolean) (of Kind.Integer) h l = tt
same_alike v w (of Kind.Integer) (of Kind.Boolean) h l = tt
same_alike v w (of Kind.Boolean) ill h l = tt
same_alike v w (of Kind.Integer) ill h l = tt
same_alike v w ill m h l = tt

unary_alike : (u : Unary) → Alike (change (unary_of u)) (change (unary_kind u))
unary_alike Not (Some (Boolean x)) (of Kind.Boolean) h = refl
unary_alike Not (Some (Integer x)) (of Kind.Boolean) h = tt
unary_alike Not None (of Kind.Boolean) h = tt
unary_alike Not v (of Kind.Integer) h = tt
unary_alike Not v ill h = tt
unary_alike Negate (Some (Integer x)) (of Kind.Integer) h = fitted_kind (pos 0 -ℤ x)
unary_alike Negate (Some (Boolean x)) (of Kind.Integer) h = tt
unary_alike Negate None (of Kind.Integer) h = tt
unary_alike Negate v (of Kind.Boolean) h = tt
unary_alike Negate v ill h = tt

binary_alike : (o : Binary) → Alike (join (binary_of o)) (join (binary_kind o))
binary_alike And = bools_alike ◌&&◌
binary_alike Or = bools_alike ◌||◌
binary_alike Add = ints_alike sum_of Kind.Integer (λ x y. fitted_kind (x +ℤ y))
binary_alike Subtract = ints_alike difference_of Kind.Integer (λ x y. fitted_kind (x -ℤ y))
binary_alike Multiply = ints_alike product_of Kind.Integer (λ x y. fitted_kind (x *ℤ y))
binary_alike Divide = ints_alike quotient_of Kind.Integer (λ x y. divided_kind y (quot_z x y))
binary_alike Remainder = ints_alike remainder_of Kind.Integer (λ x y. divided_kind y (rem_z x y))
binary_alike Equal = same_alike
binary_alike Less = ints_alike (λ a b. boolean (lt_z a b)) Kind.Boolean (λ x y. refl)
binary_alike LessOrEqual = ints_alike (λ a b. boolean (le_z a b)) Kind.Boolean (λ x y. refl)

-- every variable that has a kind holds a value of it
unfoldable pub Fit : List Slot → List ℕ → Type 0
Fit vars kinds = (n : ℕ) → Of (variable_of vars n) (variable_kind kinds n)

module _ (vars : List Slot) (kinds : List ℕ) (fit : Fit vars kinds) where
  step_alike : (left : ℕ) (r : Read) → Alike (value_step vars left r) (kind_step kinds r)
  unfolding Fit
  step_alike left (item (Item.Constant v)) = refl
  step_alike left (item (Item.Variable n)) = fit n
  step_alike left (item (Item.Unary u)) = unary_alike u
  step_alike left (item (Item.Binary b)) = binary_alike b
  step_alike left (item Item.Draw) = refl
  step_alike left none = tt

  runs : (ws : List ℕ) (left : ℕ) (vs : List (Option Val)) (ks : List Kinded) → AllOf vs ks
      → Agree (run_of (value_steps vars left ws) vs) (run_of (kind_steps kinds ws) ks)
  unfolding value_steps kind_steps
  runs [] left vs ks h = ended vs ks h
  runs (w ∷ ws) left vs ks h =
      one (value_steps vars (left / 2 ^ draws_in (item_of w)) ws) (kind_steps kinds ws) (runs ws (left / 2 ^ draws_in (item_of w)))
      (value_step vars left (item_of w)) (kind_step kinds (item_of w)) (step_alike left (item_of w)) vs ks h

  pub agree : (ws : List ℕ) (word : ℕ) → Agree (run_of (value_steps vars word ws) []) (run_of (kind_steps kinds ws) [])
  agree ws word = runs ws word [] [] tt
