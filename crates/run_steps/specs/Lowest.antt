-- The first of some numbers at which a test fails.
use Rattle.std.specs.Prelude.{ℕ, zero, suc, Bool, cond, ltb}

-- the lowest number below n at which a test fails, n if there is none
unfoldable pub lowest : ℕ → (ℕ → Bool) → ℕ
lowest zero p = zero
lowest (suc n) p = cond (ltb (lowest n p) n) (lowest n p) (cond (p n) (suc n) n)
