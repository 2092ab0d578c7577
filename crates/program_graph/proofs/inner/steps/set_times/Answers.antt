use Rattle.program_graph.proofs.WordLaws.{times_anew}
use Rattle.program_graph.proofs.inner.steps.set_times.Goals as goal

pub returns : goal.returns
returns c =
    rw c.copy.ensures (times_anew c.args.r.now c.requires.0 c.args.times.now c.requires.1)
