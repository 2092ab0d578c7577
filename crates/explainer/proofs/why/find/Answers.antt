use mathlib.Core.Path.{◌∙◌}
use Rattle.laws.specs.Ladder.{unless}
use Rattle.laws.proofs.Tests.{held, failed}
use Rattle.channel_system.proofs.FittingLaws.{fits_both}
use Rattle.explainer.specs.Why.{found_of}
use Rattle.explainer.proofs.why.find.Goals as goal

pub returns-then-not-system_fits : goal.returns-then-not-system_fits
unfolding found_of unless
returns-then-not-system_fits c = rw (failed c.system_fits.ensures c.if-not-system_fits.true) (c.answered.ensures ∙ rw c.number.ensures)

pub tables_same-requires : goal.tables_same-requires
tables_same-requires c = (fits_both _ _ (held c.system_fits.ensures c.if-not-system_fits.false)).0

pub returns-then-not-tables_same : goal.returns-then-not-tables_same
unfolding found_of unless
returns-then-not-tables_same c =
    rw (held c.system_fits.ensures c.if-not-system_fits.false, failed c.tables_same.ensures c.if-not-tables_same.true)
    (c.answered-then-not-tables_same.ensures ∙ rw c.number-then-not-tables_same.ensures)

pub plain-requires : goal.plain-requires
plain-requires c = fits_both _ _ (held c.system_fits.ensures c.if-not-system_fits.false)

pub returns : goal.returns
unfolding found_of unless
returns c =
    rw (held c.system_fits.ensures c.if-not-system_fits.false, held c.tables_same.ensures c.if-not-tables_same.false) c.plain.ensures
