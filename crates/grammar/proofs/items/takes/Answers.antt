use Rattle.grammar.proofs.ItemLaws.{takes_low, takes_high}
use mathlib.Core.Path.{sym, ◌∙◌}
use Rattle.grammar.proofs.items.takes.Goals as goal

pub returns-then-w-lt-TRUTH : goal.returns-then-w-lt-TRUTH
returns-then-w-lt-TRUTH c = c.row.ensures ∙ takes_low _ c.if-w-lt-TRUTH.true

pub returns : goal.returns
returns c = sym (takes_high _ c.if-w-lt-TRUTH.false)
