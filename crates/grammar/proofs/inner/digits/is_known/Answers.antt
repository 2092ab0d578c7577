use borrow.Author.Tests.{eq-eqb, ne_eqb}
use Rattle.grammar.proofs.inner.digits.is_known.Goals as goal

pub returns-then-known-eq0 : goal.returns-then-known-eq0
returns-then-known-eq0 c = rw (eq-eqb _ _ c.if-known-eq0.true)

pub returns : goal.returns
returns c = rw (ne_eqb _ _ c.if-known-eq0.false)
