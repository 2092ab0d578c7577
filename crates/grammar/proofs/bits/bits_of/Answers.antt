use lib.IntN.{pos, negsuc, nat_abs, ◌-ℤ◌}
use lib.Signed.{non_neg}
use lib.Dec.{T}
use mir.Syntax.{w32}
use mir.Val.{of_z, to_z, Fits}
use mir.ValLaws.{to_z-of_z, to_z_pos}
use Rattle.grammar.proofs.BitLaws.{up, Down, down}
use Rattle.grammar.specs.Bits.{bits_of}
use mathlib.Core.Path.{◌≡◌}
use native.Mathlib.Omega.{arith}
use Rattle.grammar.proofs.bits.bits_of.Goals as goal
use Rattle.grammar.proofs.bits.bits_of.Goals.{Else-n-ge0, Start, Then-n-ge0}

same : (c : Start) → to_z w32 (of_z w32 c.args.n) ≡ c.args.n
same c = to_z-of_z w32 c.args.n c.ranges.n

above : (c : Then-n-ge0)
    → (T (non_neg c.args.n) × Fits w32
    (nat_abs c.args.n)) × (nat_abs c.args.n ≡ bits_of c.args.n)
above c = up c.args.n c.ranges.n (rw (same c.before) at c.if-n-ge0.true)

below : (c : Else-n-ge0) → Down c.args.n
below c = down c.args.n c.ranges.n (rw (same c.before) at c.if-n-ge0.false)

-- what -1 - n is, after its bits
rest : (c : Else-n-ge0) → to_z w32 (of_z w32 (negsuc 0 -ℤ to_z w32 (of_z w32 c.args.n))) ≡ pos (below c).n
rest c = rw (same c.before, (below c).less) (to_z_pos w32 (below c).n (below c).small)

pub overflow_cast-result : goal.overflow_cast-result
overflow_cast-result c = rw (same (goal.at.overflow_cast-result c).Start) (above (goal.at.overflow_cast-result c).Then-n-ge0).0

pub overflow_sub-result : goal.overflow_sub-result
overflow_sub-result c = rw (same (goal.at.overflow_sub-result c).Start, (below (goal.at.overflow_sub-result c).Else-n-ge0).less) (record { sfits = (below (goal.at.overflow_sub-result c).Else-n-ge0).small })

pub overflow_cast-result-else-n-ge0 : goal.overflow_cast-result-else-n-ge0
overflow_cast-result-else-n-ge0 c = rw (rest (goal.at.overflow_cast-result-else-n-ge0 c).Else-n-ge0) (tt, record { fits = omega (arith, (below (goal.at.overflow_cast-result-else-n-ge0 c).Else-n-ge0).small) })

pub overflow_sub-result-else-n-ge0 : goal.overflow_sub-result-else-n-ge0
overflow_sub-result-else-n-ge0 c = rw (rest (goal.at.overflow_sub-result-else-n-ge0 c).Else-n-ge0) (omega (arith, (below (goal.at.overflow_sub-result-else-n-ge0 c).Else-n-ge0).small))

pub returns-then-n-ge0 : goal.returns-then-n-ge0
returns-then-n-ge0 c = rw (same (goal.at.returns-then-n-ge0 c).Start) (above (goal.at.returns-then-n-ge0 c).Then-n-ge0).1

pub returns-else-n-ge0 : goal.returns-else-n-ge0
returns-else-n-ge0 c = rw (rest (goal.at.returns-else-n-ge0 c).Else-n-ge0) (below (goal.at.returns-else-n-ge0 c).Else-n-ge0).bits
