-- Facts of every number below a size, shown one by one.
use Prim.Native.Nat.{ℕ, zero, suc, ◌≤◌, ◌<◌}
use mathlib.Core.Path.{◌≡◌}
use native.Mathlib.Nat.{not-suc-le-zero, le_of_suc-le-suc}
use native.Mathlib.Omega.{arith}

abbrev pub Each : (ℕ → Type 0) → ℕ → Type 0
Each P zero = Unit {0}
Each P (suc n) = P zero × Each (λ (k : ℕ). P (suc k)) n

pub upto : (P : ℕ → Type 0) (n : ℕ) → Each P n → (k : ℕ) → k < n → P k
upto P zero each k h = absurd (not-suc-le-zero h)
upto P (suc n) each zero h = each.0
upto P (suc n) each (suc k) h = upto (λ (j : ℕ). P (suc j)) n each.1 k (le_of_suc-le-suc h)

-- one more number that it is not
pub above : {n : ℕ} (k : ℕ) → k ≤ n → (n ≡ k → ⊥) → suc k ≤ n
above k h ne = omega arith
