use mathlib.Core.Path.{◌∙◌}
use native.Mathlib.Omega.{arith}
use Rattle.grammar.specs.declared.values.«Type».TheVariants.{Boolean, Integer}
use Rattle.grammar.specs.Items.{item_of}
use Rattle.grammar.proofs.PlaneLaws.{order}
use Rattle.grammar.proofs.DigitLaws.{both_unfit, alike_booleans, compared}
use Rattle.grammar.proofs.inner.digits.comparison.Goals as goal

pub returns-then-waiting-eq10 : goal.returns-then-waiting-eq10
returns-then-waiting-eq10 c ks e = compared ks _ _ e c.if-waiting-eq10.true c.requires.0 c.requires.1

pub returns-then-w-ne-EQUAL : goal.returns-then-w-ne-EQUAL
returns-then-w-ne-EQUAL c ks e =
    let s = c.before.before in
    rw (order s.args.w (omega (arith, s.requires.0)) s.requires.1) (both_unfit Integer Boolean ks _ e c.if-waiting-eq10.false)

pub returns : goal.returns
unfolding item_of
returns c ks e = rw c.if-w-ne-EQUAL.false (c.logic.ensures ks e ∙ alike_booleans ks _ e c.if-waiting-eq10.false)
