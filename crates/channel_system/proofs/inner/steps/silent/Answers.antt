use Rattle.channel_system.proofs.inner.steps.silent.Goals as goal

pub returns : goal.returns
returns c = rw c.no_message.ensures
