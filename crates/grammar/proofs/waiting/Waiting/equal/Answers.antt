use mathlib.Core.Path.{refl}
use native.Mathlib.Omega.{arith}
use Rattle.grammar.proofs.PlaneLaws.{two_wait, not_alike, none_joined, both_integers, both_booleans}
use Rattle.grammar.proofs.waiting.Waiting.equal.Goals as goal

pub overflow_sub-result : goal.overflow_sub-result
overflow_sub-result c = omega (arith, two_wait c.args.self.depth c.args.self.integers (omega arith) c.requires)

pub returns-then-self-eq3 : goal.returns-then-self-eq3
returns-then-self-eq3 c =
    both_integers _ c.args.self.depth c.args.self.integers c.requires 0 _ (omega arith) refl (omega arith) (omega arith)
    (omega arith)

pub returns-then-self-lt2 : goal.returns-then-self-lt2
returns-then-self-lt2 c = none_joined _ c.ill.ensures (λ h. absurd (omega arith))

pub returns-then-self-ne0 : goal.returns-then-self-ne0
returns-then-self-ne0 c = none_joined _ c.ill-then-self-ne0.ensures (λ h. not_alike _ c.if-self-eq3.false c.if-self-ne0.true)

pub returns : goal.returns
returns c =
    let s = c.before.before.before in both_booleans _ s.args.self.depth s.args.self.integers s.requires (omega arith) (omega arith) refl
