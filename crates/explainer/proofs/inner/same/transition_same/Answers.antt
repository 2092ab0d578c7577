use mathlib.Core.Path.{◌∙◌}
use native.Mathlib.Omega.{arith}
use Rattle.laws.proofs.BelowLaws.{and_yes, and_no}
use Rattle.laws.proofs.Tests.{held, failed}
use Rattle.run_steps.proofs.LimitLaws.{limits_of_transition}
use Rattle.explainer.specs.Same.{transition_same}
use Rattle.explainer.proofs.inner.same.transition_same.Goals as goal

pub guard_same-requires : goal.guard_same-requires
guard_same-requires c = (c.requires.0, c.requires.1, c.requires.3, c.requires.4)

pub returns-then-not-guard_same : goal.returns-then-not-guard_same
unfolding transition_same
returns-then-not-guard_same c = and_no _ (failed c.guard_same.ensures c.if-not-guard_same.true)

pub limit_count-requires : goal.limit_count-requires
limit_count-requires c = (c.requires.0.words, omega (arith, c.requires.4, c.requires.0.counts.transitions))

pub limits_same-requires : goal.limits_same-requires
limits_same-requires c =
    let k = limits_of_transition c.requires.0 c.requires.4 in
    rw c.limit_count.ensures (c.requires.0, c.requires.2, c.requires.3, k.1, k.2.few)

pub returns : goal.returns
unfolding transition_same
returns c =
    and_yes (held c.guard_same.ensures c.if-not-guard_same.false) (c.limits_same.ensures ∙ rw c.limit_count.ensures)
