use native.Mathlib.Omega.{arith}
use Rattle.system_tables.proofs.inner.ceiling.filled_to.Goals as goal

pub overflow_mul-result : goal.overflow_mul-result
overflow_mul-result c =
    omega (arith, c.rounded_up.ensures.1)

pub returns-in-Bounded : goal.returns-in-Bounded
returns-in-Bounded c = rw (c.in-Bounded.is, c.rounded_up.ensures.0)
