use Rattle.channel_system.proofs.inner.steps.message_step.Goals as goal

pub send_step-requires : goal.send_step-requires
send_step-requires c =
    (c.requires.0, rw c.in-Send.is at c.requires.1)

pub receive_step-requires : goal.receive_step-requires
receive_step-requires c =
    (c.requires.0, rw c.in-Receive.is at c.requires.1, c.requires.2 c.in-Receive.is)

pub returns-in-Send : goal.returns-in-Send
returns-in-Send c = rw c.in-Send.is c.send_step.ensures

pub returns-in-Receive : goal.returns-in-Receive
returns-in-Receive c = rw c.in-Receive.is c.receive_step.ensures
