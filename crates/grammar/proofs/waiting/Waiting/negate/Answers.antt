use Prim.Native.Nat.{◌%◌}
use mathlib.Core.Path.{◌≡◌}
use native.Mathlib.Omega.{arith}
use Rattle.grammar.proofs.PlaneLaws.{none_changed, left_changed}
use Rattle.grammar.proofs.waiting.Waiting.negate.Goals as goal

pub returns-then-self-ne1 : goal.returns-then-self-ne1
returns-then-self-ne1 c =
    let e : c.args.self.integers % 2 ≡ 0 = omega arith in
    none_changed _ c.ill.ensures (rw e)

pub returns : goal.returns
returns c =
    let e : c.args.self.integers % 2 ≡ 1 = omega arith in
    left_changed c.requires (rw e)
