use mathlib.Core.Path.{◌∙◌}
use borrow.Author.Tests.{eq-eqb, ne_eqb}
use Rattle.laws.proofs.BelowLaws.{and_yes, and_no}
use Rattle.laws.proofs.Tests.{held, failed}
use Rattle.run_steps.specs.Waiting.{awaited_of}
use Rattle.run_steps.proofs.inner.waiting.is_awaited.Goals as goal

pub returns-then-pre_of-places : goal.returns-then-pre_of-places
unfolding awaited_of
returns-then-pre_of-places c =
    and_no _ (ne_eqb _ _ (rw (c.pre_of.ensures, c.key_of-key.ensures) at c.if-pre_of-places.true))

pub returns-then-not-is_coming : goal.returns-then-not-is_coming
unfolding awaited_of
returns-then-not-is_coming c =
    and_yes (eq-eqb _ _ (rw (c.pre_of.ensures, c.key_of-key.ensures) at c.if-pre_of-places.false))
    (and_no _ (failed c.is_coming.ensures c.if-not-is_coming.true))

pub returns : goal.returns
unfolding awaited_of
returns c =
    let key = c.key_of-key.ensures in
    and_yes (eq-eqb _ _ (rw (c.pre_of.ensures, key) at c.if-pre_of-places.false))
    (and_yes (held c.is_coming.ensures c.if-not-is_coming.false) (c.is_shared.ensures ∙ rw (c.action_of.ensures, key)))
