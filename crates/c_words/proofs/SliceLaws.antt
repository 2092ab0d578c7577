-- Laws of what stands past the end of a slice.
use Prim.Native.Nat.{ℕ, zero, suc, ◌≤◌}
use mathlib.Core.Path.{◌≡◌, refl, ap}
use mathlib.Core.List.{List, [], ◌∷◌}
use lib.ListN.{length, get_or, set}
use native.Mathlib.Nat.{not-suc-le-zero, le_of_suc-le-suc}

-- a word past the end is not there, and is not written
pub read_past : (xs : List ℕ) (i : ℕ) → length xs ≤ i → get_or xs i 0 ≡ 0
read_past [] i h = refl
read_past (x ∷ xs) zero h = absurd (not-suc-le-zero h)
read_past (x ∷ xs) (suc i) h = read_past xs i (le_of_suc-le-suc h)

pub write_past : (xs : List ℕ) (i w : ℕ) → length xs ≤ i → set xs i w ≡ xs
write_past [] i w h = refl
write_past (x ∷ xs) zero w h = absurd (not-suc-le-zero h)
write_past (x ∷ xs) (suc i) w h = ap (λ (ys : List ℕ). x ∷ ys) (write_past xs i w (le_of_suc-le-suc h))
