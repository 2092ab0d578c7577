use Rattle.std.proofs.Common.{rules}
use Rattle.program_graph.specs.Running.{place_known}
use Rattle.laws.proofs.Chains.{all_in_range}
use Rattle.program_graph.proofs.inner.fits.places_known.Goals as goal

pub returns : goal.returns
unfolding place_known
returns c = all_in_range _ _ c.all.ensures.ran (λ x b t k. rw (← c.location_count-locations.ensures) (search rules))
