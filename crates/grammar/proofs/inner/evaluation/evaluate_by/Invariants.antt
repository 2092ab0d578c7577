use Rattle.grammar.proofs.TurnLaws.{Going}
use Rattle.grammar.proofs.inner.evaluation.evaluate_by.Given as goal

abbrev pub invariant-loop-w : goal.invariant-loop-w
invariant-loop-w g l = Going l.items (g.V.Variables.slots l.vars) l.word l.stack l.left l.depth l.w-index
