use Rattle.std.proofs.Common.{rules}
use Rattle.run_steps.specs.Steps.{post_known}
use Rattle.laws.proofs.Chains.{all_in_range}
use Rattle.run_steps.proofs.inner.effects.posts_known.Goals as goal

pub returns : goal.returns
unfolding post_known
returns c = all_in_range _ _ c.all.ensures.ran (λ x b t k. rw (← c.location_count-locations.ensures) (search rules))
