-- Rows in the order of their numbers, over any width, and a row more.
use Rattle.std.specs.Prelude.{ℕ, zero, suc, ◌+◌, ◌*◌, cond, List, ◌++◌, ltb, length, get_or, take, drop}
use Rattle.std.proofs.Math.Seq.{slice}

-- the number of row i of rows of w words from a base on: its first word
abbrev pub number_at : List ℕ → ℕ → ℕ → ℕ → ℕ
number_at t base w i = get_or t (base + w * i) 0

-- of m rows from row i on, the first whose number is above k; past them, if none is
abbrev pub place_from : (ℕ → ℕ) → ℕ → ℕ → ℕ → ℕ
place_from number k i zero = i
place_from number k i (suc m) = cond (ltb k (number i)) i (place_from number k (i + 1) m)

-- before the first of n rows whose number is above k, so that equal ones stay as added
abbrev pub place_of : (ℕ → ℕ) → ℕ → ℕ → ℕ
place_of number n k = place_from number k 0 n

-- the words from lo up to hi moved up by w; those from lo up to lo + w are as they were
abbrev pub gap_of : List ℕ → ℕ → ℕ → ℕ → List ℕ
gap_of t lo hi w = take (lo + w) t ++ (slice lo hi t ++ drop (hi + w) t)

-- these words from a place on
abbrev pub pasted_at : List ℕ → ℕ → List ℕ → List ℕ
pasted_at t at row = take at t ++ (row ++ drop (at + length row) t)
