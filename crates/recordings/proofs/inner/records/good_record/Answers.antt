use borrow.Author.Tests.{eq-eqb, ne_eqb}
use Rattle.laws.proofs.Tests.{held, failed}
use Rattle.laws.proofs.BelowLaws.{and_yes, and_no}
use Rattle.recordings.specs.Records.{good_record}
use Rattle.recordings.proofs.inner.records.good_record.Goals as goal

pub returns-then-r-ne0 : goal.returns-then-r-ne0
unfolding good_record
returns-then-r-ne0 c = and_no _ (ne_eqb _ _ c.if-r-ne0.true)

pub returns-then-not-zeros : goal.returns-then-not-zeros
unfolding good_record
returns-then-not-zeros c =
    and_yes (eq-eqb _ _ c.if-r-ne0.false) (and_no _ (failed c.zeros.ensures c.if-not-zeros.true))

pub returns : goal.returns
unfolding good_record
returns c =
    and_yes (eq-eqb _ _ c.if-r-ne0.false)
    (and_yes (held c.zeros.ensures c.if-not-zeros.false) c.good_kind.ensures)
