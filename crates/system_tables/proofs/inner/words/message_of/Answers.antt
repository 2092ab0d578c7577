use borrow.Author.Tests.{eq-eqb, ne_eqb}
use Rattle.system_tables.proofs.inner.words.message_of.Goals as goal

pub returns-then-k-eq-SEND : goal.returns-then-k-eq-SEND
returns-then-k-eq-SEND c = rw (eq-eqb _ _ c.if-k-eq-SEND.true)

pub returns-then-k-eq-RECEIVE : goal.returns-then-k-eq-RECEIVE
returns-then-k-eq-RECEIVE c = rw (ne_eqb _ _ c.if-k-eq-SEND.false, eq-eqb _ _ c.if-k-eq-RECEIVE.true)

pub returns-then-k-eq-EMPTY : goal.returns-then-k-eq-EMPTY
returns-then-k-eq-EMPTY c = rw (ne_eqb _ _ c.if-k-eq-SEND.false, ne_eqb _ _ c.if-k-eq-RECEIVE.false, eq-eqb _ _ c.if-k-eq-EMPTY.true)

pub returns : goal.returns
returns c = rw (ne_eqb _ _ c.if-k-eq-SEND.false, ne_eqb _ _ c.if-k-eq-RECEIVE.false, ne_eqb _ _ c.if-k-eq-EMPTY.false)
