use mathlib.Core.Path.{◌∙◌}
use Rattle.program_graph.proofs.WordLaws.{vars_length}
use Rattle.program_graph.proofs.LeaveLaws.{effects_ran, effects_undone}
use Rattle.program_graph.proofs.inner.steps.run_several.Goals as goal

pub returns-then-run_effects : goal.returns-then-run_effects
returns-then-run_effects c =
    effects_ran c.args.t.now c.args.a c.args.word c.args.r.now c.run_effects.new.vars c.requires.1
    c.run_effects.result
    c.run_effects.ensures.0 c.if-run_effects.true c.run_effects.ensures.1

pub returns : goal.returns
returns c =
    effects_undone c.args.t.now c.args.a c.args.word c.args.r.now c.run_effects.new.vars c.requires.1
    c.run_effects.result
    c.run_effects.ensures.0 c.if-run_effects.false (c.run_effects.ensures.1.words ∙ vars_length c.args.r.now c.requires.1) _
    (c.copy-2.ensures ∙ c.copy.ensures)
