use native.Mathlib.Omega.{arith}
use Rattle.grammar.specs.Items.{item_of}
use Rattle.grammar.proofs.PlaneLaws.{none_left, arithmetic, order, logic}
use Rattle.grammar.proofs.waiting.Waiting.operated.Goals as goal

pub returns-then-w-eq-NEGATE : goal.returns-then-w-eq-NEGATE
unfolding item_of
returns-then-w-eq-NEGATE c = rw c.if-w-eq-NEGATE.true c.negate.ensures

pub returns-then-w-eq-NOT : goal.returns-then-w-eq-NOT
unfolding item_of
returns-then-w-eq-NOT c = rw c.if-w-eq-NOT.true c.not.ensures

pub returns-then-w-eq0 : goal.returns-then-w-eq0
returns-then-w-eq0 c = none_left _ _ _ _ c.ill.ensures c.if-w-eq0.true

pub returns-then-w-lt-ADD : goal.returns-then-w-lt-ADD
returns-then-w-lt-ADD c =
    rw (logic c.args.w (omega arith) c.if-w-eq-NEGATE.false
    c.if-w-eq-NOT.false c.if-w-eq0.false) c.logic.ensures

pub returns-then-w-lt-EQUAL : goal.returns-then-w-lt-EQUAL
returns-then-w-lt-EQUAL c = rw (arithmetic c.args.w (omega arith) (omega arith)) c.arithmetic.ensures

pub returns-then-w-eq-EQUAL : goal.returns-then-w-eq-EQUAL
unfolding item_of
returns-then-w-eq-EQUAL c = rw c.if-w-eq-EQUAL.true c.equal.ensures

pub returns : goal.returns
returns c = rw (order c.args.w (omega arith) (omega arith)) c.order.ensures
