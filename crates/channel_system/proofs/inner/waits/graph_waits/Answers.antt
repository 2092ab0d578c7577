use Rattle.channel_system.specs.Waits.{graph_waits}
use Rattle.channel_system.proofs.inner.waits.graph_waits.Goals as goal

pub is_waiting_on-requires : goal.is_waiting_on-requires
is_waiting_on-requires c =
    rw (c.graph_at.ensures, c.run_at.ensures)
    (c.requires.table.graph c.args.g c.requires.known, (c.requires.state.run c.args.g c.requires.known).run)

pub returns : goal.returns
unfolding graph_waits
returns c = rw (c.graph_at.ensures, c.run_at.ensures) at c.is_waiting_on.ensures
