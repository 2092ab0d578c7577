use lib.Dec.{eqb, ltb}
use Rattle.grammar.specs.Bits.{from_bits}
use Rattle.grammar.specs.Inner.{held_of, operand_on}
use Rattle.grammar.specs.declared.values.Val.TheVariants.{Boolean, Integer}
use Rattle.grammar.proofs.ItemLaws.{operand_none, through}
use Prim.Native.Nat.{◌/◌}
use mathlib.Core.Path.{◌∙◌}
use Rattle.grammar.proofs.inner.evaluation.constant.Goals as goal

pub returns-in-14 : goal.returns-in-14
unfolding operand_on
returns-in-14 c x =
    let p = c.args.w / 256 in
    rw c.in-14.is (c.truth.ensures ∙ through (operand_on x p 0) (ltb p 2) (Boolean (eqb p 1)))

pub returns-in-15 : goal.returns-in-15
unfolding operand_on
returns-in-15 c x =
    let p = c.args.w / 256 in
    rw c.in-15.is (c.number.ensures ∙ through (operand_on x p 0) (ltb p 4294967296) (Integer (from_bits p)))

pub returns-in_default : goal.returns-in_default
unfolding held_of operand_on
returns-in_default c x = rw (operand_none _ _ (c.in_default.in_default-own.rest, c.requires))
