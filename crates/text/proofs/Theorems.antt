-- What is written as text is read back as what it was.
use Rattle.std.proofs.Common.{◌≡◌, ℕ, suc, ◌^◌, ◌<◌, ◌≤◌, true, false, length, get_or, eqb, pos, negsuc, arith, rules}
use Rattle.std.specs.Prelude.{Some}
use Rattle.std.proofs.lemmas.Fmt.{digits_decimal, digits_value-decimal, decimal_nonempty, length-decimal-le}
use Rattle.std.proofs.lemmas.Str.Parse.{IsNumeralModel, numerals_by_fold, not_in_digits}
use borrow.Author.Tests.{lt-ltb, le-leb, ne_eqb}
use Rattle.text.specs.Numbers.{are_digits, decimal, number_if, up_to, number_of, small_of, positive, negative, integer_of}
use Rattle.text.specs.Writing.{number_text, integer_text}
use Rattle.text.proofs.Spelling.{number}

-- ---- the digits of a number, as std knows them
own : IsNumeralModel (λ ds. are_digits ds ≡ true) (decimal 0)
unfolding are_digits decimal
own = numerals_by_fold _ (search rules) decimal (search rules)

module _ (n : ℕ) (h : n < 2 ^ 64) where
  known : are_digits (number_text n) ≡ true
  known = rw (number n h) at (digits_decimal own n h)

  value : decimal 0 (number_text n) ≡ n
  value = rw (number n h) at (digits_value-decimal own n h)

  some : 0 < length (number_text n)
  some = rw (number n h) at (decimal_nonempty n h)

  few : (k : ℕ) → n < 10 ^ suc k → length (number_text n) ≤ suc k
  few k l = rw (number n h) at (length-decimal-le (suc k) n (omega arith) l h)

  no_minus : eqb (get_or (number_text n) 0 0) 45 ≡ false
  no_minus = ne_eqb (get_or (number_text n) 0 0) 45 (not_in_digits own (number_text n) 45 known (λ r. omega (arith, r)) 0 some)

-- A number that a program writes is read back as itself, wherever its digits are not too many and it is not above the largest.
pub number_back : (most largest n : ℕ) → n < 10 ^ suc most → n < 18446744073709551616 → n ≤ largest → number_of (suc most) largest (number_text n) ≡ Some n
unfolding number_of up_to number_if
number_back most largest n h k l =
    rw (lt-ltb 0 (length (number_text n)) (some n k), le-leb (length (number_text n)) (suc most) (few n k most h), known n k, value n k, le-leb n largest l)

-- So is a number of 32 bits.
pub small_back : (n : ℕ) → n ≤ 4294967295 → small_of (number_text n) ≡ Some n
unfolding small_of
small_back n h = rw (number_back 9 4294967295 n (omega arith) (omega arith) h)

-- An integer of 32 bits that a program writes is read back as itself: one that is not negative, and one that is.
pub integer_back : (n : ℕ) → n ≤ 2147483647 → integer_of (integer_text (pos n)) ≡ Some (pos n)
unfolding integer_of positive
integer_back n h = rw (no_minus n (omega arith), number_back 9 2147483647 n (omega arith) (omega arith) h)

pub negative_back : (n : ℕ) → n ≤ 2147483647 → integer_of (integer_text (negsuc n)) ≡ Some (negsuc n)
unfolding integer_of negative
negative_back n h = rw (number_back 9 2147483648 (suc n) (omega arith) (omega arith) (omega arith))
