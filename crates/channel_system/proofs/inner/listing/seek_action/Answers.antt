use Rattle.laws.proofs.Tests.{held, failed}
use Rattle.channel_system.specs.Listing.{entries_by}
use Rattle.channel_system.proofs.inner.listing.seek_action.Goals as goal

pub returns-then-not-listed_as : goal.returns-then-not-listed_as
unfolding entries_by
returns-then-not-listed_as c = rw (failed c.listed_as.ensures c.if-not-listed_as.true)

pub seek_by-requires : goal.seek_by-requires
seek_by-requires c =
    rw (c.graph_at.ensures, c.run_at.ensures)
    (c.requires.table.graph c.args.g c.requires.known, (c.requires.state.run c.args.g c.requires.known).run)

pub returns : goal.returns
unfolding entries_by
returns c =
    rw (held c.listed_as.ensures c.if-not-listed_as.false)
    (rw (c.graph_at.ensures, c.run_at.ensures) at c.seek_by.ensures)
