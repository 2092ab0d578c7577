use Rattle.std.proofs.Common.{rules}
use Rattle.run_steps.specs.Steps.{process_ready, ready_of}
use Rattle.laws.proofs.Chains.{all_in_range}
use Rattle.run_steps.proofs.inner.candidates.ready.Goals as goal

pub returns : goal.returns
unfolding ready_of process_ready
returns c = all_in_range _ _ c.all.ensures.ran (λ x b t k. search rules)
