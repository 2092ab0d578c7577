use mathlib.Core.Path.{◌∙◌}
use Rattle.grammar.specs.Items.{item_of}
use Rattle.grammar.specs.Inner.{values_on}
use Rattle.grammar.proofs.HeldLaws.{nothing, held_integer, no_integer}
use Rattle.grammar.proofs.inner.evaluation.negate.Goals as goal

pub returns-then-a-lt-FALSE : goal.returns-then-a-lt-FALSE
unfolding item_of values_on
returns-then-a-lt-FALSE c = c.integers.ensures ∙ rw (held_integer _ c.if-a-lt-FALSE.true)

pub returns : goal.returns
returns c = nothing ∙ no_integer _ c.if-a-lt-FALSE.false
