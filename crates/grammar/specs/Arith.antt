-- Integers have 32 bits: a result outside them, or a zero divisor, gives no value.
use Rattle.std.specs.Prelude.{ℤ, pos, negsuc, ◌+ℤ◌, ◌-ℤ◌, ◌*ℤ◌, eqb, Bool, false, cond}
use Rattle.std.specs.Int.Signed.{lt_z, quot_z, rem_z}
use Rattle.grammar.specs.declared.values.Val.TheVariants.{Integer}
use Rattle.std.specs.Prelude.{Option, Some, None}
use Rattle.grammar.specs.declared.values.Val.{Val}

-- -2147483648 and 2147483647
abbrev pub least : ℤ
least = negsuc 2147483647

abbrev pub most : ℤ
most = pos 2147483647

abbrev pub fitted : ℤ → Option Val
fitted z = cond (lt_z z least) None (cond (lt_z most z) None (Some (Integer z)))

abbrev pub sum_of : ℤ → ℤ → Option Val
sum_of a b = fitted (a +ℤ b)

abbrev pub difference_of : ℤ → ℤ → Option Val
difference_of a b = fitted (a -ℤ b)

abbrev pub product_of : ℤ → ℤ → Option Val
product_of a b = fitted (a *ℤ b)

abbrev pub is_zero : ℤ → Bool
is_zero (pos n) = eqb n 0
is_zero (negsuc n) = false

-- Division cuts toward zero.
abbrev pub quotient_of : ℤ → ℤ → Option Val
quotient_of a b = cond (is_zero b) None (fitted (quot_z a b))

-- A remainder has the dividend's sign.
abbrev pub remainder_of : ℤ → ℤ → Option Val
remainder_of a b = cond (is_zero b) None (fitted (rem_z a b))
