-- Numbers in decimal are spelled as std spells them.
use Rattle.std.proofs.Common.{◌≡◌, ℕ, suc, ◌%◌, ◌^◌, ◌<◌, ◌∷◌, ℤ, pos, negsuc, List, sym, ap, arith}
use Rattle.std.specs.Fmt.{decimal, signed_decimal}
use Rattle.std.proofs.lemmas.Fmt.{AppendsLastDigit, decimal_from_appends, length-decimal-le}
use lib.Signed.{mag}
use borrow.Author.Tests.{lt-ltb, le-ltb}
use Rattle.text.specs.Writing.{spelled, number_text, integer_text}

appends : AppendsLastDigit spelled
unfolding spelled
appends = record {
  one = λ (k n : ℕ) h. let e : n % 10 ≡ n = omega arith in rw (lt-ltb n 10 h, e);
  more = λ (k n : ℕ) h. rw (le-ltb n 10 h);
}

pub number : (n : ℕ) → n < 2 ^ 64 → decimal n ≡ number_text n
number n h = sym (decimal_from_appends spelled appends 20 n h (length-decimal-le 20 n (omega arith) (omega arith) h))

pub integer : (z : ℤ) → mag z < 2 ^ 63 → signed_decimal z ≡ integer_text z
integer (pos n) h = number n (omega arith)
integer (negsuc n) h = ap (λ (t : List ℕ). 45 ∷ t) (number (suc n) (omega arith))
