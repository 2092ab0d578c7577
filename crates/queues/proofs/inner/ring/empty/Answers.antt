use Rattle.std.proofs.Common.{rules}
use Rattle.queues.specs.Queues.{emptied}
use Rattle.queues.proofs.inner.ring.empty.Goals as goal

pub returns : goal.returns
unfolding emptied
returns c = search rules
