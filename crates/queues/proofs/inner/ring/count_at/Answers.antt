use Rattle.std.proofs.Common.{arith}
use Rattle.queues.proofs.QueueLaws.{stored_small}
use Rattle.queues.proofs.inner.ring.count_at.Goals as goal

pub overflow_cast-i : goal.overflow_cast-i
overflow_cast-i c = omega (arith, stored_small c.args.q.now)
