use Rattle.grammar.specs.Items.{item_of}
use Rattle.grammar.specs.Inner.{left_of}
use Rattle.grammar.proofs.PlaneLaws.{logic}
use Rattle.grammar.proofs.inner.digits.low.Goals as goal

pub returns-then-w-eq-NEGATE : goal.returns-then-w-eq-NEGATE
unfolding item_of
returns-then-w-eq-NEGATE c ks e = rw c.if-w-eq-NEGATE.true (c.negate.ensures ks e)

pub returns-then-w-eq-NOT : goal.returns-then-w-eq-NOT
unfolding item_of
returns-then-w-eq-NOT c ks e = rw c.if-w-eq-NOT.true (c.not.ensures ks e)

pub returns-then-w-eq0 : goal.returns-then-w-eq0
unfolding item_of left_of
returns-then-w-eq0 c ks e = rw c.if-w-eq0.true

pub returns : goal.returns
returns c ks e =
    let z = c.before in
    let s = z.before.before.before in
    rw (logic s.args.w s.requires z.if-w-eq-NEGATE.false z.if-w-eq-NOT.false z.if-w-eq0.false) (c.logic.ensures ks e)
