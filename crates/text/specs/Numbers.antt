-- Decimal numbers.
use Rattle.std.specs.Prelude.{ℕ, ◌+◌, ◌-◌, ◌*◌, Bool, true, cond, ◌&&◌, List, [], ◌∷◌, eqb, leb, ltb, length, get_or, drop, ℤ, pos, neg_ℤ, Option, Some, None}

abbrev pub is_digit : ℕ → Bool
is_digit b = leb 48 b && leb b 57

unfoldable pub are_digits : List ℕ → Bool
are_digits [] = true
are_digits (b ∷ rest) = is_digit b && are_digits rest

-- the number that n and a digit after it make
abbrev pub append : ℕ → ℕ → ℕ
append n b = n * 10 + (b - 48)

-- the number that n and the digits after it make
unfoldable pub decimal : ℕ → List ℕ → ℕ
decimal n [] = n
decimal n (b ∷ rest) = decimal (append n b) rest

-- the number where the test holds
unfoldable pub number_if : Bool → ℕ → Option ℕ
number_if t n = cond t (Some n) None

unfoldable pub with_digit : ℕ → ℕ → ℕ → Option ℕ
with_digit largest n b = number_if (is_digit b && leb (append n b) largest) (append n b)

-- digits alone, of a number up to the largest
unfoldable pub up_to : ℕ → ℕ → List ℕ → Option ℕ
up_to largest n token = number_if (are_digits token && leb (decimal n token) largest) (decimal n token)

-- 1 to most digits
unfoldable pub number_of : ℕ → ℕ → List ℕ → Option ℕ
number_of most largest token = cond (ltb 0 (length token) && leb (length token) most) (up_to largest 0 token) None

-- a number of 32 bits
unfoldable pub small_of : List ℕ → Option ℕ
small_of token = number_of 10 4294967295 token

-- an integer of 32 bits: a minus stands before a negative one
unfoldable pub positive : Option ℕ → Option ℤ
positive (Some n) = Some (pos n)
positive None = None

unfoldable pub negative : Option ℕ → Option ℤ
negative (Some n) = Some (neg_ℤ (pos n))
negative None = None

unfoldable pub integer_of : List ℕ → Option ℤ
integer_of token =
    cond (eqb (get_or token 0 0) 45)
    (negative (number_of 10 2147483648 (drop 1 token)))
    (positive (number_of 10 2147483647 token))
