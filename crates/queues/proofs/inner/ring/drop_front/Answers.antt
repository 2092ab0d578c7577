use Rattle.std.proofs.Common.{arith}
use Rattle.queues.specs.Queues.{dropped}
use Rattle.queues.proofs.QueueLaws.{stored_small}
use Rattle.queues.proofs.inner.ring.drop_front.Goals as goal

pub overflow_cast-n : goal.overflow_cast-n
overflow_cast-n c = omega (arith, stored_small c.args.q.now)

pub returns : goal.returns
unfolding dropped
returns c = cc
