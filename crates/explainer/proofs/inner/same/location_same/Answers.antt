use mathlib.Core.Path.{◌∙◌}
use native.Mathlib.Omega.{arith}
use Rattle.run_steps.proofs.LimitLaws.{invariants_of_location}
use Rattle.explainer.specs.Same.{location_same}
use Rattle.explainer.proofs.inner.same.location_same.Goals as goal

pub invariant_group-requires : goal.invariant_group-requires
invariant_group-requires c = omega (arith, c.requires.3, c.requires.0.counts.locations)

pub invariant_count-requires : goal.invariant_count-requires
invariant_count-requires c = (c.requires.0.words, omega (arith, c.requires.3, c.requires.0.counts.locations))

pub limits_same-requires : goal.limits_same-requires
limits_same-requires c =
    let k = invariants_of_location c.requires.0 c.requires.3 in
    rw (c.invariant_count.ensures, c.invariant_group.ensures) (c.requires.0, c.requires.1, c.requires.2, k.1, k.2.few)

pub returns : goal.returns
unfolding location_same
returns c = c.limits_same.ensures ∙ rw (c.invariant_count.ensures, c.invariant_group.ensures)
