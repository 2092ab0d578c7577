use Rattle.std.proofs.Common.{rules}
use Rattle.laws.proofs.Chains.{all_in_range}
use Rattle.system_builder.specs.Messages.{sent_typed, sent_fits}
use Rattle.system_builder.proofs.inner.messages.all_known.Goals as goal

pub returns : goal.returns
unfolding sent_typed sent_fits
returns c = all_in_range _ _ c.all.ensures.ran (λ x b t k. search rules)
