use Rattle.system_tables.specs.Formed.{channel_kind_formed}
use Rattle.system_tables.proofs.formed.channel_kind_formed.Goals as goal

pub returns : goal.returns
unfolding channel_kind_formed
returns c = rw c.channel_kind.ensures
