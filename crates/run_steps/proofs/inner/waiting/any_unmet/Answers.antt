use Rattle.std.proofs.Common.{rules}
use Rattle.laws.proofs.Ranges.{any_in_range}
use Rattle.run_steps.proofs.inner.waiting.any_unmet.Goals as goal

pub returns : goal.returns
returns c = any_in_range _ _ c.any.ensures.ran (λ x b t k. search rules)
