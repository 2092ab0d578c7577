use mathlib.Core.Path.{sym, ap, ◌∙◌}
use Rattle.graph_tables.specs.Answers.{answer_number}
use Rattle.explainer.proofs.inner.found.step_number.Goals as goal

pub copy_from_slice-requires : goal.copy_from_slice-requires
copy_from_slice-requires c = sym c.requires.1.words

pub step-requires : goal.step-requires
step-requires c = (c.requires.0, rw c.copy_from_slice.ensures.after c.requires.1)

pub returns : goal.returns
returns c = c.number_of.ensures ∙ ap answer_number c.step.ensures.0 ∙ rw c.copy_from_slice.ensures.after
