use Rattle.channel_system.specs.Waits.{clocks_fit}
use Rattle.channel_system.proofs.inner.waits.clocks_fit.Goals as goal

pub wait_fits-requires : goal.wait_fits-requires
wait_fits-requires c =
    rw (c.graph_at.ensures, c.run_at.ensures)
    (c.requires.table.graph c.args.g c.requires.known, (c.requires.state.run c.args.g c.requires.known).run)

pub returns : goal.returns
unfolding clocks_fit
returns c = rw c.run_at.ensures at c.wait_fits.ensures
