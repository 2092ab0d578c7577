use Rattle.laws.proofs.BelowLaws.{and_yes, and_no}
use Rattle.laws.proofs.Tests.{held, failed}
use Rattle.run_steps.specs.Listing.{opens_by}
use Rattle.run_steps.proofs.inner.listing.opens_by.Goals as goal

pub returns-then-not-leaves_by : goal.returns-then-not-leaves_by
unfolding opens_by
returns-then-not-leaves_by c = and_no _ (failed c.leaves_by.ensures c.if-not-leaves_by.true)

pub returns : goal.returns
unfolding opens_by
returns c =
    and_yes (held c.leaves_by.ensures c.if-not-leaves_by.false) (rw c.requires.5 at c.passes.ensures)
