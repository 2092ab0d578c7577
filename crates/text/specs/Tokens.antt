-- The tokens of a line of bytes.
use Rattle.std.specs.Prelude.{ℕ, ◌+◌, Bool, true, false, cond, ◌&&◌, List, [], ◌∷◌, eqb, ltb, length, drop}

-- the bytes up to the first blank
unfoldable pub token_of : List ℕ → List ℕ
token_of [] = []
token_of (b ∷ rest) = cond (eqb b 32) [] (b ∷ token_of rest)

-- past the blank that ends the token at a place; past the line's length where no blank does
unfoldable pub next_of : List ℕ → ℕ → ℕ
next_of line at =
    cond (ltb (at + length (token_of (drop at line))) (length line))
    (at + length (token_of (drop at line)) + 1)
    (length line + 1)

-- byte by byte
unfoldable pub same_bytes : List ℕ → List ℕ → Bool
same_bytes [] [] = true
same_bytes [] (b ∷ y) = false
same_bytes (a ∷ x) [] = false
same_bytes (a ∷ x) (b ∷ y) = eqb a b && same_bytes x y
