use Rattle.queues.specs.Queues.{pushed}
use Rattle.queues.proofs.inner.ring.push.Goals as goal

pub returns : goal.returns
unfolding pushed
returns c = let p = c.put in (cc p.ensures.0, p.ensures.1)
