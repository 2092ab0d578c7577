use mathlib.Core.Path.{ap, ◌∙◌}
use Rattle.explainer.specs.Why.{told_of}
use Rattle.explainer.proofs.WhyLaws.{why_within}
use Rattle.explainer.proofs.why.why.Goals as goal

pub part-requires : goal.part-requires
part-requires c = rw c.find-found.ensures (why_within _ _ _ _ _ _ _ _ _)

pub returns : goal.returns
returns c = (ap told_of c.find-found.ensures, c.part.ensures ∙ rw c.find-found.ensures)
