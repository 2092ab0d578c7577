use Rattle.laws.proofs.BelowLaws.{all_none, all_more, all_fails, all_done}
use Rattle.laws.proofs.Tests.{held, failed}
use Rattle.graph_checks.specs.Checks.{shallow}
use mathlib.Core.Path.{sym}
use native.Mathlib.Omega.{arith}
use borrow.Author.Rules.{rules}
use Rattle.graph_checks.proofs.checks.all_shallow.Goals as goal

pub loop-i-init : goal.loop-i-init
loop-i-init c = (search rules, all_none _)

pub returns-then-not-is_shallow : goal.returns-then-not-is_shallow
unfolding shallow
returns-then-not-is_shallow c =
    let d = c.before in
    let k = d.before in
    let l = k.before.before.before in
    sym (all_fails _ _ l.loop-i.i (omega arith)
    (failed (rw (k.kinds_of.ensures, k.choose.ensures) at d.is_shallow.ensures) c.if-not-is_shallow.true))

pub loop-i-preserved : goal.loop-i-preserved
unfolding shallow
loop-i-preserved c =
    let d = c.before in
    let k = d.before in
    let l = k.before.before.before in (
      omega arith,
      all_more _ _ l.loop-i.invariant.1
          (held (rw (k.kinds_of.ensures, k.choose.ensures) at d.is_shallow.ensures) c.if-not-is_shallow.false),
    )

pub returns : goal.returns
returns c = sym (all_done _ _ c.loop-i.i (omega arith) (omega arith) c.loop-i.invariant.1)
