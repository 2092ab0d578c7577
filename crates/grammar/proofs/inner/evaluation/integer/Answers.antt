use Rattle.grammar.proofs.HeldLaws.{held_integer}
use Rattle.grammar.proofs.Signed.{wide, cast_fits, wide_is}
use Rattle.grammar.proofs.WholeLaws.{Waits, waits}
use Rattle.grammar.specs.declared.values.Val.TheVariants.{Integer}
use Rattle.std.specs.Prelude.{Some}
use lib.IntN.{ℤ, pos, ◌+ℤ◌}
use mir.Syntax.{w64}
use mir.Val.{of_z, to_z}
use mir.ValLaws.{to_z_pos}
use mathlib.Core.Path.{◌≡◌, ap, ◌∙◌}
use native.Mathlib.Omega.{arith}
use Rattle.grammar.proofs.inner.evaluation.integer.Goals as goal
use Rattle.grammar.proofs.inner.evaluation.integer.Goals.{Start}

waiting : (c : Start) → Waits c.args.n
waiting c = waits c.args.n c.ranges.n

sum : (c : Start) → wide c.args.n +ℤ pos 2147483648 ≡ pos (waiting c).x
sum c = ap (λ (z : ℤ). z +ℤ pos 2147483648) (wide_is c.ranges.n) ∙ (waiting c).is

-- after its bits
rest : (c : Start) → to_z w64 (of_z w64 (wide c.args.n +ℤ pos 2147483648)) ≡ pos (waiting c).x
rest c = rw (sum c) (to_z_pos w64 (waiting c).x (omega (arith, (waiting c).small)))

pub overflow_add-result : goal.overflow_add-result
overflow_add-result c = rw (sum (goal.at.overflow_add-result c).Start) (record { sfits = omega (arith, (waiting (goal.at.overflow_add-result c).Start).small) })

pub overflow_cast-result-2 : goal.overflow_cast-result-2
overflow_cast-result-2 c = rw (rest (goal.at.overflow_cast-result-2 c).Start) (tt, record { fits = omega (arith, (waiting (goal.at.overflow_cast-result-2 c).Start).small) })

pub returns : goal.returns
returns c = rw (rest (goal.at.returns c).Start) (held_integer (waiting (goal.at.returns c).Start).x (waiting (goal.at.returns c).Start).small ∙ ap (λ (z : ℤ). Some (Integer z)) (waiting (goal.at.returns c).Start).back)

pub overflow_cast-result : goal.overflow_cast-result
overflow_cast-result c =
    cast_fits c.ranges.n
