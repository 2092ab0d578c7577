use borrow.Author.Tests.{eq-eqb, ne_eqb}
use Rattle.system_tables.specs.Formed.{is_probe}
use Rattle.system_tables.proofs.formed.is_probe.Goals as goal

pub returns-then-k-eq-EMPTY : goal.returns-then-k-eq-EMPTY
unfolding is_probe
returns-then-k-eq-EMPTY c = rw (eq-eqb _ _ c.if-k-eq-EMPTY.true)

pub returns-else-k-eq-EMPTY : goal.returns-else-k-eq-EMPTY
unfolding is_probe
returns-else-k-eq-EMPTY c = rw (ne_eqb _ _ c.if-k-eq-EMPTY.false)
