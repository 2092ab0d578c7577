use mathlib.Core.Path.{sym}
use native.Mathlib.Omega.{arith}
use borrow.Author.Rules.{rules}
use Rattle.laws.proofs.BelowLaws.{all_none, all_more, all_fails, all_done}
use Rattle.laws.proofs.Tests.{held, failed}
use Rattle.graph_checks.specs.Checks.{all_start_inside}
use Rattle.graph_checks.proofs.checks.all_start_inside.Goals as goal

pub loop-i-init : goal.loop-i-init
loop-i-init c = (search rules, all_none _)

pub returns-then-not-starts_inside : goal.returns-then-not-starts_inside
unfolding all_start_inside
returns-then-not-starts_inside c =
    sym (all_fails _ _ c.loop-i.i (omega arith) (failed c.starts_inside.ensures c.if-not-starts_inside.true))

pub loop-i-preserved : goal.loop-i-preserved
loop-i-preserved c =
    (omega arith, all_more _ _ c.loop-i.invariant.1 (held c.starts_inside.ensures c.if-not-starts_inside.false))

pub returns : goal.returns
unfolding all_start_inside
returns c = sym (all_done _ _ c.loop-i.i (omega arith) (omega arith) c.loop-i.invariant.1)
