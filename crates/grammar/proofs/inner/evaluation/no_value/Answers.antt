use Rattle.grammar.proofs.inner.evaluation.no_value.Goals as goal

pub returns : goal.returns
returns c = rw c.rest.ensures
