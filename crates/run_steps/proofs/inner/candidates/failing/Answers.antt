use mathlib.Core.Path.{refl, ◌∙◌}
use Rattle.laws.proofs.Ladder.{passed, stopped}
use Rattle.laws.proofs.Tests.{held, failed}
use Rattle.run_steps.specs.Steps.{failing_of}
use Rattle.run_steps.proofs.LimitLaws.{limits_of_transition}
use Rattle.run_steps.proofs.inner.candidates.failing.Goals as goal

pub returns-then-not-guard_holds : goal.returns-then-not-guard_holds
unfolding failing_of
returns-then-not-guard_holds c = stopped _ _ (failed c.guard_holds.ensures c.if-not-guard_holds.true)

pub limits_hold-requires : goal.limits_hold-requires
limits_hold-requires c =
    let k = limits_of_transition c.requires.0 c.requires.1 in
    rw c.limit_count.ensures (k.0, k.1, k.2, c.requires.3)

pub returns-then-not-limits_hold : goal.returns-then-not-limits_hold
unfolding failing_of
returns-then-not-limits_hold c =
    passed _ (held c.guard_holds.ensures c.if-not-guard_holds.false)
    (stopped _ _ (failed (c.limits_hold.ensures ∙ rw c.limit_count.ensures) c.if-not-limits_hold.true))

pub invariants_hold-requires : goal.invariants_hold-requires
invariants_hold-requires c =
    rw (c.post_of.ensures, c.key_of.ensures) (c.requires.0, (c.requires.0.transition _ c.requires.1).post, c.requires.4)

pub returns-then-not-invariants_hold : goal.returns-then-not-invariants_hold
unfolding failing_of
returns-then-not-invariants_hold c =
    passed _ (held c.guard_holds.ensures c.if-not-guard_holds.false)
    (passed _ (held (c.limits_hold.ensures ∙ rw c.limit_count.ensures) c.if-not-limits_hold.false)
    (stopped _ _
    (failed (c.invariants_hold.ensures ∙ rw (c.post_of.ensures, c.key_of.ensures)) c.if-not-invariants_hold.true)))

pub returns : goal.returns
unfolding failing_of
returns c =
    passed _ (held c.guard_holds.ensures c.if-not-guard_holds.false)
    (passed _ (held (c.limits_hold.ensures ∙ rw c.limit_count.ensures) c.if-not-limits_hold.false)
    (passed _
    (held (c.invariants_hold.ensures ∙ rw (c.post_of.ensures, c.key_of.ensures)) c.if-not-invariants_hold.false) refl))
