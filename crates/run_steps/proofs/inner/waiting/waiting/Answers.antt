use Rattle.std.proofs.Common.{rules}
use Rattle.run_steps.specs.Waiting.{waiting_of}
use Rattle.laws.proofs.Ranges.{any_in_range}
use Rattle.run_steps.proofs.inner.waiting.waiting.Goals as goal

pub returns : goal.returns
unfolding waiting_of
returns c = any_in_range _ _ c.any.ensures.ran (λ x b t k. search rules)
