use borrow.Author.Tests.{eq-eqb, ne_eqb}
use Rattle.laws.proofs.BelowLaws.{and_yes, and_no}
use Rattle.explainer.specs.Same.{tables_same}
use Rattle.explainer.proofs.inner.same.tables_same.Goals as goal

pub returns-then-guards-ne-ALL_GUARDS : goal.returns-then-guards-ne-ALL_GUARDS
unfolding tables_same
returns-then-guards-ne-ALL_GUARDS c = and_no _ (ne_eqb _ _ c.if-guards-ne-ALL_GUARDS.true)

pub returns-then-limits-ne-ALL_LIMITS : goal.returns-then-limits-ne-ALL_LIMITS
unfolding tables_same
returns-then-limits-ne-ALL_LIMITS c = and_yes (eq-eqb _ _ c.if-guards-ne-ALL_GUARDS.false) (and_no _ (ne_eqb _ _ c.if-limits-ne-ALL_LIMITS.true))

pub graphs_same-requires : goal.graphs_same-requires
graphs_same-requires c =
    (c.requires, c.if-guards-ne-ALL_GUARDS.false, c.if-limits-ne-ALL_LIMITS.false)

pub returns : goal.returns
unfolding tables_same
returns c =
    and_yes (eq-eqb _ _ c.if-guards-ne-ALL_GUARDS.false) (and_yes (eq-eqb _ _ c.if-limits-ne-ALL_LIMITS.false) c.graphs_same.ensures)
