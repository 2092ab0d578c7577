use Rattle.std.proofs.Common.{rules}
use Rattle.laws.proofs.Chains.{all_in_range}
use Rattle.system_builder.proofs.inner.graphs.all_started.Goals as goal

pub returns : goal.returns
returns c = all_in_range _ _ c.all.ensures.ran (λ x b t k. search rules)
