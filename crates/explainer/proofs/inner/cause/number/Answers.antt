use mathlib.Core.Path.{sym, ◌∙◌}
use borrow.Author.Tests.{ne_eqb}
use Rattle.run_steps.proofs.LimitLaws.{limits_of_transition, invariants_of_location}
use Rattle.explainer.specs.Cause.{number_for}
use Rattle.explainer.proofs.FailureLaws.{number_limit, number_invariant}
use Rattle.explainer.proofs.inner.cause.number.Goals as goal

pub first_unmet-requires : goal.first_unmet-requires
first_unmet-requires c =
    let k = limits_of_transition c.requires.0 c.requires.1 in
    rw c.limit_count.ensures (k.0, k.1, k.2, c.requires.2)

pub returns-then-failing-eq-LIMIT : goal.returns-then-failing-eq-LIMIT
returns-then-failing-eq-LIMIT c =
    c.first_unmet.ensures ∙ rw c.limit_count.ensures (sym (number_limit _ _ _ _ _ c.if-failing-eq-LIMIT.true))

pub first_unmet-requires-then-failing-eq-INVARIANT : goal.first_unmet-requires-then-failing-eq-INVARIANT
first_unmet-requires-then-failing-eq-INVARIANT c =
    let post = (c.requires.0.transition _ c.requires.1).post in
    let k = invariants_of_location c.requires.0 post in
    rw (c.invariant_count.ensures, c.invariant_group.ensures, c.post_of-post.ensures, c.key_of.ensures)
    (k.0, k.1, k.2, c.requires.3)

pub returns-then-failing-eq-INVARIANT : goal.returns-then-failing-eq-INVARIANT
returns-then-failing-eq-INVARIANT c =
    c.first_unmet-then-failing-eq-INVARIANT.ensures
    ∙ rw (c.invariant_count.ensures, c.invariant_group.ensures, c.post_of-post.ensures, c.key_of.ensures)
    (sym (number_invariant _ _ _ _ _ c.if-failing-eq-INVARIANT.true))

pub returns : goal.returns
unfolding number_for
returns c = rw (ne_eqb _ _ c.if-failing-eq-LIMIT.false, ne_eqb _ _ c.if-failing-eq-INVARIANT.false)
