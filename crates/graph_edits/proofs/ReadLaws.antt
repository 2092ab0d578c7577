-- Reads of a gap, of pasted words and of moved ones.
use mathlib.Core.Path.{◌≡◌, sym, ap, ◌∙◌}
use mathlib.Core.List.{List, ◌++◌}
use Prim.Native.Nat.{ℕ, ◌+◌, ◌-◌, ◌<◌, ◌≤◌}
use native.Mathlib.Omega.{arith}
use lib.ListN.{length, get_or, take, drop, length-append, length-take, length-drop, get_or-append}
use lib.Seq.{slice, take-append_seam, drop_at, get_or-append-add, get_or-take, get_or-drop, length-take-le, length-slice, ext_get_or}
use Rattle.graph_edits.specs.Rows.{gap_of, pasted_at}

-- ---- t's first n words, other words, and t's words from m on: a read of each part, and the length
before : (t rest : List ℕ) (n j : ℕ) → n ≤ length t → j < n → get_or (take n t ++ rest) j 0 ≡ get_or t j 0
before t rest n j k l = get_or-append (take n t) rest 0 j (rw (length-take-le n t k) l) ∙ get_or-take n t j 0 l

middle : (t b c : List ℕ) (n j : ℕ) → n ≤ length t → j < length b → get_or (take n t ++ (b ++ c)) (n + j) 0 ≡ get_or b j 0
middle t b c n j k l =
    ap (λ (i : ℕ). get_or (take n t ++ (b ++ c)) (i + j) 0) (sym (length-take-le n t k))
    ∙ get_or-append-add (take n t) (b ++ c) j 0
    ∙ get_or-append b c 0 j l

after : (t b : List ℕ) (n m j : ℕ) → n ≤ length t → n + length b ≡ m → m ≤ j → get_or (take n t ++ (b ++ drop m t)) j 0 ≡ get_or t j 0
after t b n m j k e l =
    ap (λ (i : ℕ). get_or (take n t ++ (b ++ drop m t)) i 0) place
    ∙ get_or-append-add (take n t) (b ++ drop m t) (length b + (j - m)) 0
    ∙ get_or-append-add b (drop m t) (j - m) 0
    ∙ get_or-drop m t (j - m) 0
    ∙ ap (λ (i : ℕ). get_or t i 0) back
  where
    place : j ≡ length (take n t) + (length b + (j - m))
    place = rw (length-take-le n t k) (omega arith)

    back : m + (j - m) ≡ j
    back = omega arith

whole : (t b : List ℕ) (n m : ℕ) → n + length b ≡ m → m ≤ length t → length (take n t ++ (b ++ drop m t)) ≡ length t
whole t b n m e l = simp (length-append, length-take, length-drop) (omega arith)

-- ---- a gap
module _ (t : List ℕ) (lo hi w : ℕ) (h : lo ≤ hi) (k : hi + w ≤ length t) where
  moved : lo + w + length (slice lo hi t) ≡ hi + w
  moved = rw (length-slice lo hi t (omega arith)) (omega arith)

  pub gap_length : length (gap_of t lo hi w) ≡ length t
  gap_length = whole t (slice lo hi t) (lo + w) (hi + w) moved k

  pub gap_before : (j : ℕ) → j < lo + w → get_or (gap_of t lo hi w) j 0 ≡ get_or t j 0
  gap_before j l = before t (slice lo hi t ++ drop (hi + w) t) (lo + w) j (omega arith) l

  pub gap_moved : (j : ℕ) → lo ≤ j → j < hi → get_or (gap_of t lo hi w) (j + w) 0 ≡ get_or t j 0
  gap_moved j p l =
      ap (λ (i : ℕ). get_or (gap_of t lo hi w) i 0) place
      ∙ middle t (slice lo hi t) (drop (hi + w) t) (lo + w) (j - lo) (omega arith) (omega (arith, moved))
      ∙ get_or-drop lo (take hi t) (j - lo) 0
      ∙ ap (λ (i : ℕ). get_or (take hi t) i 0) back
      ∙ get_or-take hi t j 0 l
    where
      place : j + w ≡ lo + w + (j - lo)
      place = omega arith

      back : lo + (j - lo) ≡ j
      back = omega arith

  pub gap_after : (j : ℕ) → hi + w ≤ j → get_or (gap_of t lo hi w) j 0 ≡ get_or t j 0
  gap_after j l = after t (slice lo hi t) (lo + w) (hi + w) j (omega arith) moved l

-- ---- pasted words
module _ (t : List ℕ) (at : ℕ) (row : List ℕ) (k : at + length row ≤ length t) where
  pub paste_length : length (pasted_at t at row) ≡ length t
  paste_length = whole t row at (at + length row) (omega arith) k

  pub paste_before : (j : ℕ) → j < at → get_or (pasted_at t at row) j 0 ≡ get_or t j 0
  paste_before j l = before t (row ++ drop (at + length row) t) at j (omega arith) l

  pub paste_at : (j : ℕ) → j < length row → get_or (pasted_at t at row) (at + j) 0 ≡ get_or row j 0
  paste_at j l = middle t row (drop (at + length row) t) at j (omega arith) l

  pub paste_after : (j : ℕ) → at + length row ≤ j → get_or (pasted_at t at row) j 0 ≡ get_or t j 0
  paste_after j l = after t row at (at + length row) j (omega arith) (omega arith) l

  pub paste_items : take (length row) (drop at (pasted_at t at row)) ≡ row
  paste_items =
      ap (λ (l : List ℕ). take (length row) l)
      (drop_at (take at t) (row ++ drop (at + length row) t) at (length-take-le at t (omega arith)))
      ∙ take-append_seam row (drop (at + length row) t)

-- ---- n words that stand at another place of another list: so do the first m of them
pub moved_items : (t u : List ℕ) (from to n m : ℕ) → m ≤ n → from + n ≤ length t → to + n ≤ length u
    → ((j : ℕ) → j < n → get_or u (to + j) 0 ≡ get_or t (from + j) 0) → take m (drop to u) ≡ take m (drop from t)
moved_items t u from to n m h p q e = ext_get_or 0 (take m (drop to u)) (take m (drop from t)) (long u to q ∙ sym (long t from p)) each
  where
    long : (l : List ℕ) (i : ℕ) → i + n ≤ length l → length (take m (drop i l)) ≡ m
    long l i k = simp (length-take, length-drop) (omega arith)

    read : (l : List ℕ) (i j : ℕ) → j < m → get_or (take m (drop i l)) j 0 ≡ get_or l (i + j) 0
    read l i j k = get_or-take m (drop i l) j 0 k ∙ get_or-drop i l j 0

    each : (j : ℕ) → j < length (take m (drop to u)) → get_or (take m (drop to u)) j 0 ≡ get_or (take m (drop from t)) j 0
    each j k =
        let l : j < m = rw (long u to q) at k in
        read u to j l ∙ e j (omega arith) ∙ sym (read t from j l)
