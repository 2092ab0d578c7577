use Rattle.system_tables.specs.Formed.{graph_formed}
use Rattle.system_tables.proofs.formed.graph_formed.Goals as goal

pub returns : goal.returns
unfolding graph_formed
returns c = rw c.graph_at.ensures at c.well_formed-2.ensures
