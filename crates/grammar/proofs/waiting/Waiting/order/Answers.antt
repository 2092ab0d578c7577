use mathlib.Core.Path.{refl}
use native.Mathlib.Omega.{arith}
use Rattle.grammar.proofs.PlaneLaws.{two_wait, not_integers, none_joined, both_integers}
use Rattle.grammar.proofs.waiting.Waiting.order.Goals as goal

pub returns-then-self-ne3 : goal.returns-then-self-ne3
returns-then-self-ne3 c = none_joined _ c.ill.ensures (λ h. not_integers _ _ c.if-self-ne3.true)

pub overflow_sub-result : goal.overflow_sub-result
overflow_sub-result c = omega (arith, two_wait c.args.self.depth c.args.self.integers (omega arith) c.requires)

pub returns : goal.returns
returns c =
    both_integers _ c.args.self.depth c.args.self.integers c.requires 0 _ (omega arith) refl (omega arith) (omega arith)
    (omega arith)
