use Rattle.system_tables.proofs.inner.words.communication_of.Goals as goal

pub returns : goal.returns
returns c = rw c.communication_at.ensures at c.communication_in.ensures
