use mathlib.Core.Path.{◌∙◌}
use native.Mathlib.Omega.{arith}
use Rattle.run_steps.specs.Waiting.{coming_of}
use Rattle.run_steps.proofs.LimitLaws.{limits_of_transition, invariants_of_location}
use Rattle.run_steps.proofs.inner.waiting.is_coming.Goals as goal

pub is_due-requires : goal.is_due-requires
is_due-requires c =
    let l = limits_of_transition c.requires.0 c.requires.1 in
    rw c.limit_count.ensures (l.0, l.1, l.2, c.requires.2)

pub returns-then-is_due : goal.returns-then-is_due
unfolding coming_of
returns-then-is_due c =
    rw (rw (c.is_due.ensures, c.limit_count.ensures) at c.if-is_due.true)

pub invariant_group-requires : goal.invariant_group-requires
invariant_group-requires c = omega (arith, c.post_of-post.ensures)

pub invariant_count-requires : goal.invariant_count-requires
invariant_count-requires c =
    (c.requires.0.words, omega (arith, c.post_of-post.ensures))

pub is_due-requires-2 : goal.is_due-requires-2
is_due-requires-2 c =
    let l = invariants_of_location c.requires.0 (c.requires.0.transition _ c.requires.1).post in
    rw (c.invariant_count.ensures, c.invariant_group.ensures, c.post_of-post.ensures, c.key_of.ensures) (
      l.0,
      l.1,
      l.2,
      c.requires.2,
    )

pub returns : goal.returns
unfolding coming_of
returns c =
    rw (rw (c.is_due.ensures, c.limit_count.ensures) at c.if-is_due.false)
    (c.is_due-2.ensures ∙ rw (c.invariant_count.ensures, c.invariant_group.ensures, c.post_of-post.ensures, c.key_of.ensures))
