use Rattle.run_steps.specs.Steps.{limits_hold}
use Rattle.run_steps.proofs.LowestLaws.{lowest_tells}
use Rattle.run_steps.proofs.inner.limits.limits_hold.Goals as goal

pub returns : goal.returns
unfolding limits_hold
returns c = rw c.first_unmet.ensures (lowest_tells _ _)
