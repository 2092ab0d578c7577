use native.Mathlib.Omega.{arith}
use Rattle.queues.proofs.MessageLaws.{slots_few}
use Rattle.channel_system.proofs.inner.channels.roomy.Goals as goal

pub overflow_add-stored : goal.overflow_add-stored
overflow_add-stored c = omega (arith, c.slots_for.ensures, slots_few _ c.requires.1, c.requires.0)
