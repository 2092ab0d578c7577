use Rattle.laws.proofs.Tests.{held, failed}
use Rattle.laws.proofs.BelowLaws.{and_yes, and_no}
use Rattle.program_graph.proofs.inner.waits.can_wait_on.Goals as goal

pub returns-then-not-wait_fits : goal.returns-then-not-wait_fits
returns-then-not-wait_fits c = and_no _ (failed c.wait_fits.ensures c.if-not-wait_fits.true)

pub wait_holds-requires : goal.wait_holds-requires
wait_holds-requires c =
    (c.requires.0, c.requires.1, held c.wait_fits.ensures c.if-not-wait_fits.false)

pub returns : goal.returns
returns c = and_yes (held c.wait_fits.ensures c.if-not-wait_fits.false) c.wait_holds.ensures
