-- Laws of words pasted and of a place, over any width.
use mathlib.Core.Path.{◌≡◌, ap, ◌∙◌}
use mathlib.Core.List.{List, ◌++◌, append_assoc}
use Prim.Native.Nat.{ℕ, suc, ◌+◌, ◌-◌, ◌<◌, ◌≤◌}
use native.Mathlib.Numerals.{add-one}
use native.Mathlib.Omega.{arith}
use borrow.Author.Tests.{le-ltb}
use lib.ListN.{length, get_or, take, drop, set}
use lib.Seq.{paste, paste-zero, paste-suc, take-length}
use Rattle.graph_edits.specs.Rows.{place_from, pasted_at}

-- ---- words pasted
pub paste_none : (t : List ℕ) (at : ℕ) (row : List ℕ) → t ≡ paste t at row 0
paste_none t at row = paste-zero t at row

pub paste_step : (t u : List ℕ) (at : ℕ) (row : List ℕ) (k : ℕ) → at + k < length t → k < length row → u ≡ paste t at row k
    → set u (at + k) (get_or row k 0) ≡ paste t at row (k + 1)
paste_step t u at row k h l e = rw (e, add-one k) (paste-suc t at row k 0 h l)

pub paste_all : (t : List ℕ) (at : ℕ) (row : List ℕ) → paste t at row (length row) ≡ pasted_at t at row
paste_all t at row =
    ap (λ (r : List ℕ). take at t ++ r ++ drop (at + length row) t) (take-length row)
    ∙ append_assoc (take at t) row (drop (at + length row) t)

-- ---- a place
pub place_next : (f : ℕ → ℕ) (k i n : ℕ) → i < n → f i ≤ k → place_from f k i (n - i) ≡ place_from f k (i + 1) (n - (i + 1))
place_next f k i n h l =
    let e : n - i ≡ suc (n - (i + 1)) = omega arith in
    rw (e, le-ltb _ _ l)
