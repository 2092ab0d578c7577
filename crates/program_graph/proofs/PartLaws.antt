-- A part of some words written anew: it reads as written, and every other part as before.
use Prim.Native.Nat.{ℕ, ◌+◌, ◌-◌, ◌≤◌}
use mathlib.Core.Path.{◌≡◌, sym, ap, ◌∙◌}
use mathlib.Core.List.{List, ◌++◌}
use native.Mathlib.Omega.{arith}
use lib.ListN.{length, take, drop, length-append, length-drop, take-append-drop}
use lib.Seq.{length-take-le, take_at, drop_at, take-append-le, drop-append-le, drop-append-add, drop-drop}

abbrev pub anew : List ℕ → ℕ → ℕ → List ℕ → List ℕ
anew r a m x = take a r ++ (x ++ drop m (drop a r))

module _ (r : List ℕ) (a m : ℕ) (x : List ℕ) (size : length x ≡ m) (within : a + m ≤ length r) where
  front : length (take a r) ≡ a
  front = length-take-le a r (omega arith)

  pub part_length : length (anew r a m x) ≡ length r
  part_length =
      length-append (take a r) (x ++ drop m (drop a r))
      ∙ rw (front, length-append x (drop m (drop a r)), size, length-drop m (drop a r), length-drop a r) (omega arith)

  pub part_same : take m (drop a (anew r a m x)) ≡ x
  part_same = ap (take m) (drop_at (take a r) (x ++ drop m (drop a r)) a front) ∙ take_at x (drop m (drop a r)) m size

  -- a part before it
  pub part_before : (b k : ℕ) → b + k ≤ a → take k (drop b (anew r a m x)) ≡ take k (drop b r)
  part_before b k l =
      let long : k ≤ length (drop b (take a r)) = rw (length-drop b (take a r), front) (omega arith) in
      let start : b ≤ length (take a r) = rw front (omega arith) in
      ap (take k) (drop-append-le b (take a r) (x ++ drop m (drop a r)) start)
      ∙ take-append-le k (drop b (take a r)) (x ++ drop m (drop a r)) long
      ∙ sym (take-append-le k (drop b (take a r)) (drop a r) long)
      ∙ sym (ap (take k) (drop-append-le b (take a r) (drop a r) start))
      ∙ ap (λ (w : List ℕ). take k (drop b w)) (take-append-drop a r)

  -- all that is behind it
  pub part_behind : (b : ℕ) → a + m ≤ b → drop b (anew r a m x) ≡ drop b r
  part_behind b l =
      let e : b ≡ a + (m + (b - (a + m))) = omega arith in
      let rest = b - (a + m) in
      ap (λ (i : ℕ). drop i (anew r a m x)) (e ∙ ap (λ (i : ℕ). i + (m + rest)) (sym front))
      ∙ drop-append-add (take a r) (x ++ drop m (drop a r)) (m + rest)
      ∙ ap (λ (i : ℕ). drop (i + rest) (x ++ drop m (drop a r))) (sym size)
      ∙ drop-append-add x (drop m (drop a r)) rest
      ∙ drop-drop rest m (drop a r)
      ∙ drop-drop (m + rest) a r
      ∙ ap (λ (i : ℕ). drop i r) (sym e)
