use Rattle.grammar.specs.Inner.{held_of}
use Rattle.grammar.proofs.inner.evaluation.boolean.Goals as goal

pub returns-then-b : goal.returns-then-b
unfolding held_of
returns-then-b c = rw c.if-b.true

pub returns-else-b : goal.returns-else-b
unfolding held_of
returns-else-b c = rw c.if-b.false
