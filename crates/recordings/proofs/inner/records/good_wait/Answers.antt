use borrow.Author.Tests.{eq-eqb, ne_eqb}
use Rattle.laws.proofs.BelowLaws.{and_yes, and_no}
use Rattle.recordings.specs.Records.{good_wait}
use Rattle.recordings.proofs.inner.records.good_wait.Goals as goal

pub returns-then-r-ne0 : goal.returns-then-r-ne0
unfolding good_wait
returns-then-r-ne0 c = and_no _ (ne_eqb _ _ c.if-r-ne0.true)

pub returns-then-r-ne0-2 : goal.returns-then-r-ne0-2
unfolding good_wait
returns-then-r-ne0-2 c = and_yes (eq-eqb _ _ c.if-r-ne0.false) (and_no _ (ne_eqb _ _ c.if-r-ne0-2.true))

pub returns : goal.returns
unfolding good_wait
returns c =
    and_yes (eq-eqb _ _ c.if-r-ne0.false) (and_yes (eq-eqb _ _ c.if-r-ne0-2.false) c.zeros.ensures)
