use mathlib.Core.Path.{refl}
use native.Mathlib.Omega.{arith}
use Rattle.grammar.proofs.PlaneLaws.{not_booleans, none_joined, both_booleans}
use Rattle.grammar.proofs.waiting.Waiting.logic.Goals as goal

pub returns-then-self-lt2 : goal.returns-then-self-lt2
returns-then-self-lt2 c = none_joined _ c.ill.ensures (λ h. absurd (omega arith))

pub returns-then-self-ne0 : goal.returns-then-self-ne0
returns-then-self-ne0 c = none_joined _ c.ill-then-self-ne0.ensures (λ h. not_booleans _ _ c.if-self-ne0.true)

pub returns : goal.returns
returns c = let s = c.before.before in both_booleans _ s.args.self.depth s.args.self.integers s.requires (omega arith) (omega arith) refl
