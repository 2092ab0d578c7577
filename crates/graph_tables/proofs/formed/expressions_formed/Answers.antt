use native.Mathlib.Omega.{arith}
use Rattle.graph_tables.proofs.FormedLaws.{sums_none, sums_fail, sums_more, sums_end, expression_few}
use Rattle.graph_tables.proofs.formed.expressions_formed.Goals as goal

pub expression_draws-draws-requires : goal.expression_draws-draws-requires
expression_draws-draws-requires c =
    let s = c.before.before.before in
    (s.requires.0, s.requires.1, s.requires.2, s.requires.3, omega (arith, s.requires.4))

pub returns-then-draws-gt-DRAWS : goal.returns-then-draws-gt-DRAWS
returns-then-draws-gt-DRAWS c =
    let d = c.before in
    let l = d.before.before in
    sums_fail _ _ (expression_few _ _) _ l.loop-e.e _ (omega arith) d.expression_draws-draws.ensures c.if-draws-gt-DRAWS.true

pub overflow_add-sum : goal.overflow_add-sum
overflow_add-sum c =
    let l = c.before.before.before in
    omega (arith, l.loop-e.invariant.1, l.requires.4)

pub loop-e-preserved : goal.loop-e-preserved
loop-e-preserved c =
    let d = c.before in
    let l = d.before.before in
    sums_more _ _ _ l.loop-e.e _ l.loop-e.sum (omega arith) l.loop-e.invariant d.expression_draws-draws.ensures c.if-draws-gt-DRAWS.false

pub returns : goal.returns
returns c = let l = c.before in sums_end _ _ _ l.loop-e.e l.loop-e.sum (omega arith) l.loop-e.invariant

pub loop-e-init : goal.loop-e-init
loop-e-init c =
    sums_none _ _ _
