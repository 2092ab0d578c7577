use Rattle.system_tables.proofs.inner.writers.set_communication.Goals as goal

pub returns : goal.returns
returns c = rw c.communication_word-w.ensures
