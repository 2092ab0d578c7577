use borrow.Author.Tests.{eq-eqb, ne_eqb}
use native.Mathlib.Omega.{arith}
use Rattle.system_tables.proofs.inner.words.capacity_of.Goals as goal

pub overflow_cast-result : goal.overflow_cast-result
overflow_cast-result c =
    omega (arith, c.bound_of.ensures, c.requires.2 (rw c.sort_of-sort.ensures at c.if-sort-eq-BOUNDED.true))

pub returns-then-sort-eq-BOUNDED : goal.returns-then-sort-eq-BOUNDED
returns-then-sort-eq-BOUNDED c = rw (eq-eqb _ _ (rw c.sort_of-sort.ensures at c.if-sort-eq-BOUNDED.true), c.bound_of.ensures)

pub returns-then-sort-eq-UNBOUNDED : goal.returns-then-sort-eq-UNBOUNDED
returns-then-sort-eq-UNBOUNDED c =
    rw (ne_eqb _ _ (rw c.sort_of-sort.ensures at c.if-sort-eq-BOUNDED.false), eq-eqb _ _ (rw c.sort_of-sort.ensures at c.if-sort-eq-UNBOUNDED.true))

pub returns : goal.returns
returns c =
    rw (ne_eqb _ _ (rw c.sort_of-sort.ensures at c.if-sort-eq-BOUNDED.false), ne_eqb _ _ (rw c.sort_of-sort.ensures at c.if-sort-eq-UNBOUNDED.false))
