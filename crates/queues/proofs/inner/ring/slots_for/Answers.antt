use Rattle.std.proofs.Common.{rules}
use Rattle.queues.specs.Queues.{slots_for}
use Rattle.queues.proofs.inner.ring.slots_for.Goals as goal

pub returns : goal.returns
unfolding slots_for
returns c = search rules
