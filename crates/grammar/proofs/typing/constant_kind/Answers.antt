use Rattle.grammar.specs.Inner.{operand_kind}
use Rattle.grammar.proofs.ItemLaws.{operand_none}
use borrow.Author.Tests.{lt-ltb, le-ltb}
use Rattle.grammar.proofs.typing.constant_kind.Goals as goal

pub returns-then-payload-lt2 : goal.returns-then-payload-lt2
unfolding operand_kind
returns-then-payload-lt2 c = rw (c.in-14.is, lt-ltb _ _ c.if-payload-lt2.true)

pub returns-else-payload-lt2 : goal.returns-else-payload-lt2
unfolding operand_kind
returns-else-payload-lt2 c = rw (c.in-14.is, le-ltb _ _ c.if-payload-lt2.false)

pub returns-then-payload-lt4294967296 : goal.returns-then-payload-lt4294967296
unfolding operand_kind
returns-then-payload-lt4294967296 c = rw (c.in-15.is, lt-ltb _ _ c.if-payload-lt4294967296.true)

pub returns-else-payload-lt4294967296 : goal.returns-else-payload-lt4294967296
unfolding operand_kind
returns-else-payload-lt4294967296 c = rw (c.in-15.is, le-ltb _ _ c.if-payload-lt4294967296.false)

pub returns-in-16 : goal.returns-in-16
unfolding operand_kind
returns-in-16 c = rw c.in-16.is c.variable_kind.ensures

pub returns-in_default : goal.returns-in_default
unfolding operand_kind
returns-in_default c = rw (operand_none _ _ c.in_default.in_default-own.rest)
