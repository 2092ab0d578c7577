use Rattle.grammar.specs.Inner.{whole_of}
use Rattle.grammar.proofs.WholeLaws.{whole_fits}
use lib.IntN.{ℤ, pos, ◌-ℤ◌}
use mir.Syntax.{w32, w64}
use mir.Val.{SFits, of_z, to_z}
use mir.Facts.{to_z-of_z, sfits_widen}
use mir.ValLaws.{to_z_pos}
use mathlib.Core.Path.{◌≡◌, ap}
use native.Mathlib.Omega.{arith}
use Rattle.grammar.proofs.inner.evaluation.whole.Goals as goal
use Rattle.grammar.proofs.inner.evaluation.whole.Goals.{Start}

fits : (c : Start) → SFits w32 (whole_of c.args.x)
fits c = whole_fits c.args.x c.requires

less : (c : Start) → to_z w64 c.args.x -ℤ pos 2147483648 ≡ whole_of c.args.x
less c = ap (λ (z : ℤ). z -ℤ pos 2147483648) (to_z_pos w64 c.args.x (omega arith))

pub overflow_sub-result : goal.overflow_sub-result
overflow_sub-result c = rw (less (goal.at.overflow_sub-result c).Start) (sfits_widen tt (fits (goal.at.overflow_sub-result c).Start))

-- after its bits
rest : (c : Start) → to_z w64 (of_z w64 (to_z w64 c.args.x -ℤ pos 2147483648)) ≡ whole_of c.args.x
rest c = rw (less c) (to_z-of_z (sfits_widen {w' = w64} tt (fits c)))

pub overflow_cast-result-2 : goal.overflow_cast-result-2
overflow_cast-result-2 c = rw (rest (goal.at.overflow_cast-result-2 c).Start) (fits (goal.at.overflow_cast-result-2 c).Start)

pub returns : goal.returns
returns c = rw (rest (goal.at.returns c).Start) (to_z-of_z (fits (goal.at.returns c).Start))
