use native.Mathlib.Omega.{arith}
use Rattle.run_steps.proofs.KeyLaws.{leaves_first}
use Rattle.run_steps.proofs.inner.waiting.leaves_by.Goals as goal

pub returns : goal.returns
returns c =
    rw (c.post_of.ensures, c.key_of-key.ensures) (leaves_first _ _ _ c.requires.2)

pub overflow_sub-result : goal.overflow_sub-result
overflow_sub-result c =
    omega (arith, c.post_of.ensures)
