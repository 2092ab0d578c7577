use native.Mathlib.Omega.{arith}
use Rattle.grammar.proofs.PlaneLaws.{arithmetic}
use Rattle.grammar.proofs.inner.digits.operated.Goals as goal

pub returns-then-w-lt-ADD : goal.returns-then-w-lt-ADD
returns-then-w-lt-ADD c ks e = c.low.ensures ks e

pub returns-then-w-lt-EQUAL : goal.returns-then-w-lt-EQUAL
returns-then-w-lt-EQUAL c ks e =
    let s = c.before.before.before in
    rw (arithmetic s.args.w (omega arith) (omega arith)) (c.arithmetic.ensures ks e)

pub returns : goal.returns
returns c ks e = c.comparison.ensures ks e
