use mathlib.Core.Path.{◌∙◌}
use Rattle.explainer.proofs.inner.found.number_of.Goals as goal

pub returns-in-Err : goal.returns-in-Err
returns-in-Err c = c.number.ensures ∙ rw c.in-Err.is
