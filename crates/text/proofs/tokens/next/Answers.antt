use Rattle.std.proofs.Common.{sym, ◌∙◌}
use Rattle.text.proofs.Bytes.{none_after}
use Rattle.text.proofs.tokens.next.Goals as goal

pub returns-in-None : goal.returns-in-None
returns-in-None c = none_after _ _ (rw c.rest.ensures at (sym c.blank.ensures ∙ c.in-None.is))
