use Rattle.std.proofs.Common.{rules}
use Rattle.laws.proofs.Chains.{all_in_range}
use Rattle.run_steps.proofs.inner.waiting.none_passed.Goals as goal

pub returns : goal.returns
returns c = all_in_range _ _ c.all.ensures.ran (λ x b t k. search rules)
