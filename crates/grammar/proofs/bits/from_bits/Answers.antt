use lib.IntN.{ℤ, negsuc, ◌-ℤ◌}
use mir.Syntax.{w32}
use mir.Val.{to_z}
use mir.ValLaws.{to_z-of_z, to_z_pos}
use Rattle.grammar.proofs.BitLaws.{neg_less_one, from_low, from_high}
use Prim.Native.Nat.{◌-◌}
use mathlib.Core.Path.{◌≡◌, sym, ap, ◌∙◌}
use native.Mathlib.Omega.{arith}
use Rattle.grammar.proofs.bits.from_bits.Goals as goal
use Rattle.grammar.proofs.bits.from_bits.Goals.{Else-b-lt2147483648}

below : (c : Else-b-lt2147483648) → negsuc 0 -ℤ to_z w32 (4294967295 - c.args.b) ≡ negsuc (4294967295 - c.args.b)
below c =
    ap (λ (z : ℤ). negsuc 0 -ℤ z) (to_z_pos w32 (4294967295 - c.args.b) (omega arith))
    ∙ neg_less_one (4294967295 - c.args.b)

pub overflow_sub-result-else-b-lt2147483648 : goal.overflow_sub-result-else-b-lt2147483648
overflow_sub-result-else-b-lt2147483648 c = rw (below (goal.at.overflow_sub-result-else-b-lt2147483648 c).Else-b-lt2147483648) (record { sfits = omega arith })

pub returns-then-b-lt2147483648 : goal.returns-then-b-lt2147483648
returns-then-b-lt2147483648 c = to_z_pos w32 _ (omega arith) ∙ sym (from_low _ c.if-b-lt2147483648.true)

pub returns-else-b-lt2147483648 : goal.returns-else-b-lt2147483648
returns-else-b-lt2147483648 c = rw (below (goal.at.returns-else-b-lt2147483648 c).Else-b-lt2147483648) (to_z-of_z w32 _ (record { sfits = omega arith }) ∙ sym (from_high _ c.if-b-lt2147483648.false))
