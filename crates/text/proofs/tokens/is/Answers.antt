use Rattle.std.proofs.Common.{◌∙◌}
use Rattle.text.proofs.Bytes.{paired}
use Rattle.text.proofs.tokens.is.Goals as goal

pub returns : goal.returns
returns c = c.agree.ensures ∙ paired _ _ c.if-token-word.false
