use Rattle.std.proofs.Common.{rules}
use Rattle.run_steps.specs.Waiting.{place_has, shared_of}
use Rattle.laws.proofs.Chains.{all_in_range}
use Rattle.run_steps.proofs.inner.waiting.is_shared.Goals as goal

pub returns : goal.returns
unfolding shared_of place_has
returns c = all_in_range _ _ c.all.ensures.ran (λ x b t k. search rules)
