-- Laws of an integer as 32 bits.
use Prim.Native.Nat.{ℕ, zero, suc, ◌-◌, ◌≤◌, ◌<◌}
use mathlib.Core.Path.{◌≡◌, refl, sym, ap, ◌∙◌}
use mathlib.Core.Bool.{true, false}
use native.Mathlib.Omega.{arith}
use borrow.Author.Tests.{lt-ltb, le-ltb, le-leb}
use lib.Dec.{T}
use lib.IntN.{ℤ, pos, negsuc, nat_abs, ◌-ℤ◌}
use lib.Signed.{non_neg, le_z}
use mir.Syntax.{w32}
use mir.Val.{SFits, Fits}
use Rattle.grammar.specs.Bits.{bits_of, from_bits}

absurd_true : {A : Type 0} → false ≡ true → A
absurd_true e = let z : ◌≡◌ {A = ℕ} 0 1 = cc in absurd (omega arith)

less_one : (n : ℕ) → negsuc 0 -ℤ negsuc n ≡ pos n
less_one n = rw (le-ltb (suc n) 1 (omega arith)) (ap pos (omega arith))

pub neg_less_one : (n : ℕ) → negsuc 0 -ℤ pos n ≡ negsuc n
neg_less_one zero = refl
neg_less_one (suc n) = ap negsuc (omega arith)

-- a number from 0 up is its own bits
pub up : (z : ℤ) → SFits w32 z → le_z (pos 0) z ≡ true → (T (non_neg z) × Fits w32 (nat_abs z)) × (nat_abs z ≡ bits_of z)
up (pos n) f e = ((tt, record { fits = omega (arith, f.sfits) }), refl)
up (negsuc n) f e = absurd_true e

-- one below 0 has the bits 4294967295 less -1 - z
pub record Down (z : ℤ) : Type 0 where
  pub n : ℕ
  pub small : n < 2147483648
  pub less : negsuc 0 -ℤ z ≡ pos n
  pub bits : 4294967295 - n ≡ bits_of z

pub down : (z : ℤ) → SFits w32 z → le_z (pos 0) z ≡ false → Down z
down (pos n) f e = absurd_true (sym e ∙ le-leb 0 n (omega arith))
down (negsuc n) f e = record { n = n; small = f.sfits; less = less_one n; bits = refl }

pub from_low : (b : ℕ) → b < 2147483648 → from_bits b ≡ pos b
from_low b h = rw (lt-ltb b 2147483648 h)

pub from_high : (b : ℕ) → 2147483648 ≤ b → from_bits b ≡ negsuc (4294967295 - b)
from_high b h = rw (le-ltb b 2147483648 h)

-- what was written is read back
pub from_bits_of : (z : ℤ) → SFits w32 z → from_bits (bits_of z) ≡ z
from_bits_of (pos n) f = from_low n f.sfits
from_bits_of (negsuc n) f = from_high (4294967295 - n) (omega (arith, f.sfits)) ∙ ap negsuc (omega (arith, f.sfits))

pub bits_small : (z : ℤ) → SFits w32 z → bits_of z < 4294967296
bits_small (pos n) f = omega (arith, f.sfits)
bits_small (negsuc n) f = omega (arith, f.sfits)
