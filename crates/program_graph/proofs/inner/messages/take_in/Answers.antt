use Rattle.program_graph.proofs.LeaveLaws.{vars_left}
use Rattle.program_graph.proofs.inner.messages.take_in.Goals as goal

pub returns : goal.returns
returns c =
    vars_left c.args.t.now c.args.r.now c.take_in.new.vars _ c.requires.1 c.take_in.ensures
