-- Laws of operands that wait.
use Prim.Native.Nat.{ℕ, ◌≤◌, ◌<◌}
use mathlib.Core.Path.{◌≡◌, refl, sym, ap, ◌∙◌}
use native.Mathlib.Decide.{dec_lt, ℕ_discrete}
use native.Mathlib.Omega.{arith}
use borrow.Author.Tests.{lt-ltb, le-ltb, ne_eqb}
use lib.Dec.{eqb, ltb}
use Rattle.grammar.specs.Items.{Read}
use Rattle.grammar.specs.Evaluation.{strict1, not_of, negate_of}
use Rattle.grammar.specs.Inner.{whole_of, held_of, values_on, binary_on}
use Rattle.grammar.specs.declared.values.Val.TheVariants.{Boolean, Integer}
use Rattle.std.specs.Prelude.{Option, Some, None, Bool, cond}
use Rattle.grammar.specs.declared.values.Val.{Val}
use Rattle.grammar.proofs.OperationLaws.{integer_boolean, boolean_integer, none_left, none_right, both_known}

-- a variable that there is, and one that there is not
pub present : (n : ℕ) (e : Option Val) → n < 16 → e ≡ cond (ltb n 16) e None
present n e h = ap (λ (t : Bool). cond t e None) (sym (lt-ltb n 16 h))

pub nothing : held_of 8589934592 ≡ None
unfolding held_of
nothing = refl

pub absent : (n : ℕ) (e : Option Val) → 16 ≤ n → held_of 8589934592 ≡ cond (ltb n 16) e None
absent n e h = nothing ∙ ap (λ (t : Bool). cond t e None) (sym (le-ltb n 16 h))

module _ (x : ℕ) where
  pub held_integer : x < 4294967296 → held_of x ≡ Some (Integer (whole_of x))
  unfolding held_of
  held_integer h = rw (lt-ltb x 4294967296 h)

  held_boolean : 4294967296 ≤ x → x ≤ 4294967297 → held_of x ≡ Some (Boolean (eqb x 4294967297))
  unfolding held_of
  held_boolean h k = by (ℕ_discrete x 4294967296)
    where
      by : Dec (x ≡ 4294967296) → held_of x ≡ Some (Boolean (eqb x 4294967297))
      by (yes e) = rw e
      by (no n) =
          let e : x ≡ 4294967297 = omega arith in
          rw e

  pub held_none : 4294967297 < x → held_of x ≡ None
  unfolding held_of
  held_none h = rw (le-ltb x 4294967296 (omega arith), ne_eqb x 4294967296 (λ e. omega arith), ne_eqb x 4294967297 (λ e. omega arith))

  -- what is no integer, and what is no boolean
  pub no_integer : 4294967296 ≤ x → None ≡ strict1 negate_of (held_of x)
  no_integer h = by (dec_lt 4294967297 x)
    where
      by : Dec (4294967297 < x) → None ≡ strict1 negate_of (held_of x)
      by (yes k) = ap (strict1 negate_of) (sym (held_none k))
      by (no k) = ap (strict1 negate_of) (sym (held_boolean h (omega arith)))

  pub no_boolean : ((Unit {0} × (x ≡ 4294967296 → ⊥)) × (x ≡ 4294967297 → ⊥)) → None ≡ strict1 not_of (held_of x)
  no_boolean n = by (dec_lt x 4294967296)
    where
      by : Dec (x < 4294967296) → None ≡ strict1 not_of (held_of x)
      by (yes k) = ap (strict1 not_of) (sym (held_integer k))
      by (no k) = ap (strict1 not_of) (sym (held_none (omega (arith, n.0.1, n.1))))

-- a binary operation takes two integers or two booleans
module _ (r : Read) (x y : ℕ) where
  on : {v e f : Option Val} → v ≡ binary_on r e f → held_of x ≡ e → held_of y ≡ f → v ≡ binary_on r (held_of x) (held_of y)
  on k p q = k ∙ rw (p, q)

  pub both_integers : x < 4294967296 → y < 4294967296
      → values_on r (Integer (whole_of x)) (Integer (whole_of y)) ≡ binary_on r (held_of x) (held_of y)
  both_integers h k = on (both_known r _ _) (held_integer x h) (held_integer y k)

  pub both_booleans : 4294967296 ≤ x → x ≤ 4294967297 → 4294967296 ≤ y → y ≤ 4294967297
      → values_on r (Boolean (eqb x 4294967297)) (Boolean (eqb y 4294967297)) ≡ binary_on r (held_of x) (held_of y)
  both_booleans h k l m = on (both_known r _ _) (held_boolean x h k) (held_boolean y l m)

  pub none_first : 4294967297 < x → None ≡ binary_on r (held_of x) (held_of y)
  none_first h = on (none_left r (held_of y)) (held_none x h) refl

  pub none_second : 4294967296 ≤ x → x ≤ 4294967297 → 4294967297 < y → None ≡ binary_on r (held_of x) (held_of y)
  none_second h k l = on (none_right r _) (held_boolean x h k) (held_none y l)

  pub integer_first : x < 4294967296 → 4294967296 ≤ y → None ≡ binary_on r (held_of x) (held_of y)
  integer_first h k = by (dec_lt 4294967297 y)
    where
      by : Dec (4294967297 < y) → None ≡ binary_on r (held_of x) (held_of y)
      by (yes l) = on (none_right r _) (held_integer x h) (held_none y l)
      by (no l) = on (integer_boolean r (whole_of x) _ ∙ both_known r _ _) (held_integer x h) (held_boolean y k (omega arith))

  pub integer_second : 4294967296 ≤ x → y < 4294967296 → None ≡ binary_on r (held_of x) (held_of y)
  integer_second h k = by (dec_lt 4294967297 x)
    where
      by : Dec (4294967297 < x) → None ≡ binary_on r (held_of x) (held_of y)
      by (yes l) = none_first l
      by (no l) = on (boolean_integer r _ (whole_of y) ∙ both_known r _ _) (held_boolean x h (omega arith)) (held_integer y k)
