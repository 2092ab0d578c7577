use borrow.Author.Tests.{eq-eqb, ne_eqb}
use Rattle.system_tables.specs.Formed.{capacity_formed}
use Rattle.system_tables.proofs.formed.capacity_formed.Goals as goal

pub returns-then-sort-eq-BOUNDED : goal.returns-then-sort-eq-BOUNDED
unfolding capacity_formed
returns-then-sort-eq-BOUNDED c = rw (eq-eqb _ _ (rw c.sort_of-sort.ensures at c.if-sort-eq-BOUNDED.true)) (rw c.bound_of.ensures)

pub returns : goal.returns
unfolding capacity_formed
returns c = rw (ne_eqb _ _ (rw c.sort_of-sort.ensures at c.if-sort-eq-BOUNDED.false), c.sort_of-sort.ensures)
