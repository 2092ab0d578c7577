-- Numbers in bytes, the lowest byte first (docs/RULES.md, 'Recordings').
use Rattle.std.specs.Prelude.{ℕ, zero, suc, ◌+◌, ◌*◌, ◌/◌, ◌%◌, ◌<◌, Bool, List, [], ◌∷◌, eqb, get_or, take, drop}
use Rattle.laws.specs.Below.{all_below}

-- what a byte may be
abbrev pub byte : ℕ
byte = 256

-- every element of a list is a byte
abbrev pub Bytes : List ℕ → Type 0
Bytes xs = (k : ℕ) → get_or xs k 0 < byte

-- the number that bytes are
unfoldable pub number_of : List ℕ → ℕ
number_of [] = 0
number_of (b ∷ bs) = b + byte * number_of bs

-- so many bytes from a place on, and their number
abbrev pub part : List ℕ → ℕ → ℕ → List ℕ
part xs at n = take n (drop at xs)

unfoldable pub number_at : List ℕ → ℕ → ℕ → ℕ
number_at xs at n = number_of (part xs at n)

-- so many bytes of a number
unfoldable pub bytes_of : ℕ → ℕ → List ℕ
bytes_of zero n = []
bytes_of (suc w) n = n % byte ∷ bytes_of w (n / byte)

-- so many bytes from a place on are 0
unfoldable pub zeros_at : List ℕ → ℕ → ℕ → Bool
zeros_at xs at n = all_below n (λ i. eqb (get_or xs (at + i) 0) 0)

-- f i, f (i + 1), .., so many of them
unfoldable pub row : {A : Type 0} → (ℕ → A) → ℕ → ℕ → List A
row f i zero = []
row f i (suc n) = f i ∷ row f (i + 1) n
