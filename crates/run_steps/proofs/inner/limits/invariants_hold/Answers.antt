use mathlib.Core.Path.{◌∙◌}
use Rattle.run_steps.specs.Steps.{invariants_hold}
use Rattle.run_steps.proofs.LimitLaws.{invariants_of_location}
use Rattle.run_steps.proofs.inner.limits.invariants_hold.Goals as goal

pub limits_hold-requires : goal.limits_hold-requires
limits_hold-requires c =
    let k = invariants_of_location c.requires.0 c.requires.1 in
    rw (c.invariant_count.ensures, c.invariant_group.ensures) (k.0, k.1, k.2, c.requires.2)

pub returns : goal.returns
unfolding invariants_hold
returns c = c.limits_hold.ensures ∙ rw (c.invariant_count.ensures, c.invariant_group.ensures)
