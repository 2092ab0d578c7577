use Rattle.grammar.proofs.CodeLaws.{code_deep, code_known}
use Rattle.grammar.proofs.typing.coded.Goals as goal

pub returns-then-most-gt-MOST_OPERANDS : goal.returns-then-most-gt-MOST_OPERANDS
returns-then-most-gt-MOST_OPERANDS c n e = code_deep _ _ _ n c.requires.0 c.if-most-gt-MOST_OPERANDS.true e

pub returns : goal.returns
returns c n e = code_known _ _ _ n c.requires.0 c.if-most-gt-MOST_OPERANDS.false e
