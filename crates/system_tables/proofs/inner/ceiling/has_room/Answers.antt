use Rattle.system_tables.specs.Ceiling.{has_room}
use Rattle.system_tables.proofs.inner.ceiling.has_room.Goals as goal

pub returns : goal.returns
unfolding has_room
returns c = rw c.ceiling_of.ensures
