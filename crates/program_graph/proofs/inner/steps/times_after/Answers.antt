use mathlib.Core.Path.{ap, ◌∙◌}
use Rattle.run_steps.specs.Steps.{clocks_after}
use Rattle.program_graph.proofs.inner.steps.times_after.Goals as goal

pub returns : goal.returns
returns c =
    c.reset.ensures ∙ ap (clocks_after _ _) c.copy.ensures
