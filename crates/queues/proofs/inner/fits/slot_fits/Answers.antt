use Rattle.std.proofs.Common.{◌∙◌, eq-eqb, ne_eqb}
use Rattle.laws.proofs.BelowLaws.{and_yes, and_no}
use Rattle.queues.specs.Fits.{slot_fits}
use Rattle.queues.proofs.inner.fits.slot_fits.Goals as goal

pub returns-then-kind-kind_for : goal.returns-then-kind-kind_for
unfolding slot_fits
returns-then-kind-kind_for c = and_no _ (ne_eqb _ _ (rw (c.words_at-kind.ensures.0, c.kind_for.ensures) at c.if-kind-kind_for.true))

pub returns : goal.returns
unfolding slot_fits
returns c =
    let k = c.words_at-kind.ensures.0 in
    and_yes (eq-eqb _ _ (rw (k, c.kind_for.ensures) at c.if-kind-kind_for.false)) (c.is_value.ensures ∙ rw (k, c.words_at-kind.ensures.1))
