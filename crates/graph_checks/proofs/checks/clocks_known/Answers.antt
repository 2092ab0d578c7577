use mathlib.Core.Path.{sym}
use native.Mathlib.Omega.{arith}
use borrow.Author.Rules.{rules}
use Rattle.laws.proofs.BelowLaws.{all_none, all_more, all_fails, all_done}
use Rattle.laws.proofs.Tests.{held, failed}
use Rattle.graph_checks.specs.Checks.{clocks_known}
use Rattle.graph_checks.proofs.checks.clocks_known.Goals as goal

pub loop-i-init : goal.loop-i-init
loop-i-init c = (search rules, all_none _)

pub returns-then-not-clock_known : goal.returns-then-not-clock_known
unfolding clocks_known
returns-then-not-clock_known c =
    sym (all_fails _ _ c.loop-i.i (omega arith) (failed c.clock_known.ensures c.if-not-clock_known.true))

pub loop-i-preserved : goal.loop-i-preserved
loop-i-preserved c = (omega arith, all_more _ _ c.loop-i.invariant.1 (held c.clock_known.ensures c.if-not-clock_known.false))

pub returns : goal.returns
unfolding clocks_known
returns c = sym (all_done _ _ c.loop-i.i (omega arith) (omega arith) c.loop-i.invariant.1)
