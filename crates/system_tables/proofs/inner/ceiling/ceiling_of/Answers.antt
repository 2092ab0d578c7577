use borrow.Author.Tests.{eq-eqb, ne_eqb}
use native.Mathlib.Omega.{arith}
use Rattle.queues.specs.Queues.{slots_for}
use Rattle.system_tables.specs.Ceiling.{ceiling}
use Rattle.system_tables.proofs.inner.ceiling.ceiling_of.Goals as goal

pub returns-then-slots-eq0 : goal.returns-then-slots-eq0
unfolding ceiling
returns-then-slots-eq0 c = rw (eq-eqb _ _ (rw c.slots_for-slots.ensures at c.if-slots-eq0.true))

pub filled_to-requires : goal.filled_to-requires
unfolding slots_for
filled_to-requires c =
    (omega (arith, c.slots_for-slots.ensures, c.if-slots-eq0.false), omega (arith, c.slots_for-slots.ensures, c.requires))

pub returns : goal.returns
unfolding ceiling
returns c =
    rw (ne_eqb _ _ (rw c.slots_for-slots.ensures at c.if-slots-eq0.false)) (rw c.slots_for-slots.ensures at c.filled_to.ensures)
