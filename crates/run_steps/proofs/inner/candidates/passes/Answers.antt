use Rattle.run_steps.proofs.FailingLaws.{passes_none}
use Rattle.run_steps.proofs.inner.candidates.passes.Goals as goal

pub returns : goal.returns
returns c = rw c.failing.ensures (passes_none _ _ _ _ _)
