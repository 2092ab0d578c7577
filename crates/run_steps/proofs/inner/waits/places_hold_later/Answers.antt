use Rattle.std.proofs.Common.{rules}
use Rattle.run_steps.specs.Steps.{place_holds}
use Rattle.laws.proofs.Chains.{all_in_range}
use Rattle.run_steps.proofs.inner.waits.places_hold_later.Goals as goal

pub returns : goal.returns
unfolding place_holds
returns c = all_in_range _ _ c.all.ensures.ran (λ x b t k. search rules)
