use borrow.Author.Tests.{eq-eqb, ne_eqb}
use Rattle.laws.proofs.BelowLaws.{and_yes, and_no}
use Rattle.recordings.specs.Records.{good_kind}
use Rattle.recordings.proofs.inner.records.good_kind.Goals as goal

pub returns-then-kind-eq-STEP : goal.returns-then-kind-eq-STEP
unfolding good_kind
returns-then-kind-eq-STEP c = rw (eq-eqb _ _ c.if-kind-eq-STEP.true) c.good_step.ensures

pub returns-then-kind-ne-WAIT : goal.returns-then-kind-ne-WAIT
unfolding good_kind
returns-then-kind-ne-WAIT c = rw (ne_eqb _ _ c.if-kind-eq-STEP.false) (and_no _ (ne_eqb _ _ c.if-kind-ne-WAIT.true))

pub returns : goal.returns
unfolding good_kind
returns c =
    rw (ne_eqb _ _ c.if-kind-eq-STEP.false) (and_yes (eq-eqb _ _ c.if-kind-ne-WAIT.false) c.good_wait.ensures)
