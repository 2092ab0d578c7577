use Rattle.program_graph.proofs.LeaveLaws.{effects_one}
use Rattle.program_graph.proofs.inner.steps.run_single.Goals as goal

pub returns : goal.returns
returns c =
    effects_one c.args.t.now c.args.a c.args.word c.args.r.now c.run_effects.new.vars c.requires.1
    c.run_effects.result
    c.run_effects.ensures.0 c.requires.4 c.run_effects.ensures.1
