use Rattle.std.proofs.Common.{arith}
use Rattle.queues.proofs.QueueLaws.{stored_is}
use Rattle.queues.proofs.inner.ring.stored.Goals as goal

pub returns : goal.returns
returns c = stored_is _ _ c.requires (omega arith) (omega arith)
