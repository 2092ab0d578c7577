use Rattle.std.proofs.Common.{rules, arith, sym, ◌∙◌}
use Rattle.graph_checks.specs.Checks.{expression_check}
use Rattle.graph_checks.proofs.CheckLaws.{each_none, each_more, each_stops, each_done, passed_up}
use Rattle.graph_checks.proofs.checks.message_check.Goals as goal

pub loop-i-init : goal.loop-i-init
loop-i-init c = (search rules, each_none _)

pub returns-in_err-expression_check : goal.returns-in_err-expression_check
unfolding expression_check
returns-in_err-expression_check c =
    passed_up c.from_residual.ensures.1
    ∙ each_stops _ _ c.loop-i.i _ (omega arith) c.loop-i.invariant.1
    (sym (rw (c.kinds_of.ensures, c.choose.ensures) at c.in_err-expression_check.ensures))

pub loop-i-preserved : goal.loop-i-preserved
unfolding expression_check
loop-i-preserved c = (
  omega arith,
  each_more _ c.loop-i.i c.loop-i.invariant.1 (sym (rw (c.kinds_of.ensures, c.choose.ensures) at c.in_ok-expression_check.ensures)),
)

pub returns : goal.returns
returns c = each_done _ _ c.loop-i.i (omega arith) (omega arith) c.loop-i.invariant.1
