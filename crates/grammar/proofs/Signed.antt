-- Signed 32-bit numbers computed with at 64 bits. A signed local holds bits, so a value that goes through one is read back as
-- `to_z w (of_z w z)`: `wide` is an i32 that was cast to i64.
use mathlib.Core.Path.{◌≡◌, refl, sym, ap, ◌∙◌, subst}
use mathlib.Core.Bool.{true, false}
use Prim.Native.Nat.{ℕ, zero, suc, ◌-◌, ◌*◌, ◌/◌, ◌≤◌, ◌<◌, ◌^◌}
use native.Mathlib.Nat.{mul-le-mul, div-le_self, lt_of_le_of_lt, le_trans}
use native.Mathlib.Omega.{arith}
use lib.Dec.{eqb, lit<}
use lib.IntN.{ℤ, pos, negsuc, neg_ℤ, nat_abs, ◌*ℤ◌}
use lib.Signed.{mag, lt_z, quot_z, rem_z, mag_rem, nat_abs-le}
use borrow.Author.Tests.{ltb-false, eq-eqb, ne_eqb}
use Rattle.laws.proofs.Tests.{eqb_same}
use mir.Syntax.{w32, w64}
use mir.Val.{SFits, to_z, of_z}
use mir.Facts.{to_z-of_z, sfits_widen}
use Rattle.grammar.specs.Arith.{least, most, is_zero}
use Rattle.grammar.specs.Values.{eq_z}

-- ---- an i32 at 64 bits
abbrev pub wide : ℤ → ℤ
wide z = to_z w64 (of_z w64 (to_z w32 (of_z w32 z)))

pub cast_fits : {z : ℤ} → SFits w32 z → SFits w64 (to_z w32 (of_z w32 z))
cast_fits {z} f = subst (λ (y : ℤ). SFits w64 y) (sym (to_z-of_z f)) (sfits_widen tt f)

pub wide_is : {z : ℤ} → SFits w32 z → wide z ≡ z
wide_is f = to_z-of_z (cast_fits f) ∙ to_z-of_z f

-- an operation on two casts is the operation on the numbers
pub op_wide : {R : Type 0} (f : ℤ → ℤ → R) {a b : ℤ} → SFits w32 a → SFits w32 b → f (wide a) (wide b) ≡ f a b
op_wide f {a} {b} fa fb = ap (λ (x : ℤ). f x (wide b)) (wide_is fa) ∙ ap (λ (y : ℤ). f a y) (wide_is fb)

-- it fits, and what is read back is the exact result
pub op_fits : (f : ℤ → ℤ → ℤ) {a b : ℤ} → SFits w32 a → SFits w32 b → SFits w64 (f a b) → SFits w64 (f (wide a) (wide b))
op_fits f fa fb h = subst (λ (z : ℤ). SFits w64 z) (sym (op_wide f fa fb)) h

pub op_is : (f : ℤ → ℤ → ℤ) {a b : ℤ} → SFits w32 a → SFits w32 b → SFits w64 (f a b) → to_z w64 (of_z w64 (f (wide a) (wide b))) ≡ f a b
op_is f fa fb h = to_z-of_z (op_fits f fa fb h) ∙ op_wide f fa fb

-- ---- how large a result can be
mag_neg : (n : ℕ) → mag (neg_ℤ (pos n)) ≤ n
mag_neg zero = omega arith
mag_neg (suc n) = omega arith

product : (a b : ℤ) → mag (a *ℤ b) ≤ nat_abs a * nat_abs b
product (pos a) (pos b) = omega arith
product (pos a) (negsuc b) = mag_neg (a * suc b)
product (negsuc a) (pos b) = mag_neg (suc a * b)
product (negsuc a) (negsuc b) = omega arith

quotient : (a b : ℤ) → mag (quot_z a b) ≤ nat_abs a
quotient (pos a) (pos b) = div-le_self a b
quotient (pos a) (negsuc b) = le_trans (mag_neg (a / suc b)) (div-le_self a (suc b))
quotient (negsuc a) (pos b) = le_trans (mag_neg (suc a / b)) (div-le_self (suc a) b)
quotient (negsuc a) (negsuc b) = div-le_self (suc a) (suc b)

module _ {a b : ℤ} (fa : SFits w32 a) (fb : SFits w32 b) where
  pub product_fits : SFits w64 (a *ℤ b)
  product_fits =
      record {
        sfits = lt_of_le_of_lt (product a b) (lt_of_le_of_lt (mul-le-mul (nat_abs-le a fa.sfits) (nat_abs-le b fb.sfits)) (lit< tt));
      }

  pub quotient_fits : SFits w64 (quot_z a b)
  quotient_fits = record { sfits = lt_of_le_of_lt (quotient a b) (lt_of_le_of_lt (nat_abs-le a fa.sfits) (lit< tt)) }

  pub remainder_fits : SFits w64 (rem_z a b)
  remainder_fits = record { sfits = lt_of_le_of_lt (mag_rem a b) (sfits_widen {w' = w64} tt fa).sfits }

-- ---- the range test
pub between : (z : ℤ) → lt_z z least ≡ false → lt_z most z ≡ false → SFits w32 z
between (pos n) p q = record { sfits = omega (arith, ltb-false 2147483647 n q) }
between (negsuc n) p q = record { sfits = omega (arith, ltb-false 2147483647 n p) }

-- ---- the test against 0, which looks at the bits of the cast
abbrev pub bits : ℤ → ℕ
bits z = of_z w64 (to_z w32 (of_z w32 z))

bits_is : {z : ℤ} → SFits w32 z → bits z ≡ of_z w64 z
bits_is f = ap (of_z w64) (to_z-of_z f)

zero_yes' : (z : ℤ) → SFits w32 z → of_z w64 z ≡ 0 → is_zero z ≡ true
zero_yes' (pos n) f e = eq-eqb n 0 e
zero_yes' (negsuc n) f e = absurd (omega (arith, f.sfits))

zero_no' : (z : ℤ) → (of_z w64 z ≡ 0 → ⊥) → is_zero z ≡ false
zero_no' (pos n) h = ne_eqb n 0 h
zero_no' (negsuc n) h = refl

pub zero_yes : {z : ℤ} → SFits w32 z → bits z ≡ 0 → is_zero z ≡ true
zero_yes {z} f e = zero_yes' z f (sym (bits_is f) ∙ e)

pub zero_no : {z : ℤ} → SFits w32 z → (bits z ≡ 0 → ⊥) → is_zero z ≡ false
zero_no {z} f h = zero_no' z (λ e. h (bits_is f ∙ e))

pub divisor : (n : ℕ) → (n ≡ 0 → ⊥) → 0 < n
divisor n h = omega arith

-- ---- equality, which compares the bits
pub same_bits : (a b : ℤ) → SFits w32 a → SFits w32 b → eqb (of_z w32 a) (of_z w32 b) ≡ eq_z a b
same_bits (pos a) (pos b) f g = refl
same_bits (pos a) (negsuc b) f g = ne_eqb a (2 ^ 32 - suc b) (λ e. omega (arith, f.sfits, g.sfits))
same_bits (negsuc a) (pos b) f g = ne_eqb (2 ^ 32 - suc a) b (λ e. omega (arith, f.sfits, g.sfits))
same_bits (negsuc a) (negsuc b) f g =
    eqb_same (2 ^ 32 - suc a) (2 ^ 32 - suc b) a b (λ e. omega (arith, f.sfits, g.sfits)) (λ e. ap (λ (n : ℕ). 2 ^ 32 - suc n) e)
