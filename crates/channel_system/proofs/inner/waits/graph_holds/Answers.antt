use Rattle.channel_system.specs.Waits.{clocks_fit, graph_holds}
use Rattle.channel_system.proofs.inner.waits.graph_holds.Goals as goal

pub wait_holds-requires : goal.wait_holds-requires
unfolding clocks_fit
wait_holds-requires c =
    let f = c.requires.0 in
    rw (c.graph_at.ensures, c.run_at.ensures)
    (f.table.graph c.args.g f.known, (f.state.run c.args.g f.known).run, c.requires.1)

pub returns : goal.returns
unfolding graph_holds
returns c = rw (c.graph_at.ensures, c.run_at.ensures) at c.wait_holds.ensures
