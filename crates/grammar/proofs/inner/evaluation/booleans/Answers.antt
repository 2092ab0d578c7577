use Rattle.grammar.proofs.HeldLaws.{nothing}
use Rattle.grammar.specs.Items.{item_of}
use Rattle.grammar.specs.Inner.{values_on}
use Rattle.grammar.proofs.OperationLaws.{no_booleans}
use mathlib.Core.Path.{◌∙◌}
use Rattle.grammar.proofs.inner.evaluation.booleans.Goals as goal

pub returns-in-2 : goal.returns-in-2
unfolding item_of values_on
returns-in-2 c = rw c.in-2.is c.boolean.ensures

pub returns-in-3 : goal.returns-in-3
unfolding item_of values_on
returns-in-3 c = rw c.in-3.is c.boolean-in-3.ensures

pub returns-in-10 : goal.returns-in-10
unfolding item_of values_on
returns-in-10 c = rw c.in-10.is c.boolean-in-10.ensures

pub returns-in_default : goal.returns-in_default
returns-in_default c = nothing ∙ no_booleans _ _ c.args.w c.in_default.in_default-own.rest
