use borrow.Author.Tests.{lt-ltb, le-ltb}
use Rattle.grammar.proofs.items.slot.Goals as goal

pub returns-then-n-lt16 : goal.returns-then-n-lt16
returns-then-n-lt16 c = rw (lt-ltb _ _ c.if-n-lt16.true)

pub returns : goal.returns
returns c = rw (le-ltb _ _ c.if-n-lt16.false)
