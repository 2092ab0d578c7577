use mathlib.Core.Path.{ap, ◌∙◌}
use Rattle.grammar.specs.Inner.{typed_in}
use Rattle.grammar.proofs.CodeLaws.{typed_back}
use Rattle.grammar.proofs.typing.type_of.Goals as goal

pub returns : goal.returns
returns c = c.typed_in.ensures ∙ ap typed_in c.code_of.ensures ∙ typed_back _ _
