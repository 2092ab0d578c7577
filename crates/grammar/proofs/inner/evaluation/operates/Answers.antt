use borrow.Author.Tests.{ne_eqb}
use Rattle.grammar.proofs.inner.evaluation.operates.Goals as goal

pub returns-then-w-eq0 : goal.returns-then-w-eq0
returns-then-w-eq0 c = rw c.if-w-eq0.true

pub returns : goal.returns
returns c = rw (ne_eqb _ _ c.if-w-eq0.false)
