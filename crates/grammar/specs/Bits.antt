-- A signed 32-bit integer as 32 bits: -1 is 4294967295.
use Rattle.std.specs.Prelude.{ℕ, ◌-◌, cond, ltb, ℤ, pos, negsuc}

abbrev pub bits_of : ℤ → ℕ
bits_of (pos n) = n
bits_of (negsuc n) = 4294967295 - n

abbrev pub from_bits : ℕ → ℤ
from_bits b = cond (ltb b 2147483648) (pos b) (negsuc (4294967295 - b))
