use mathlib.Core.Path.{◌∙◌}
use Rattle.grammar.specs.Items.{item_of}
use Rattle.grammar.specs.Inner.{binary_on}
use Rattle.grammar.proofs.OperationLaws.{binary_word_lem}
use Rattle.grammar.proofs.inner.evaluation.operation.Goals as goal

pub returns-in-1 : goal.returns-in-1
unfolding item_of
returns-in-1 c = rw c.in-1.is c.not.ensures

pub returns-in-4 : goal.returns-in-4
unfolding item_of
returns-in-4 c = rw c.in-4.is c.negate.ensures

pub returns-in-2 : goal.returns-in-2
unfolding item_of binary_on
returns-in-2 c = rw c.in-2.is c.binary.ensures

pub returns-in-3 : goal.returns-in-3
unfolding item_of binary_on
returns-in-3 c = rw c.in-3.is c.binary-in-3.ensures

pub returns-in-5 : goal.returns-in-5
unfolding item_of binary_on
returns-in-5 c = rw c.in-5.is c.binary-in-5.ensures

pub returns-in-6 : goal.returns-in-6
unfolding item_of binary_on
returns-in-6 c = rw c.in-6.is c.binary-in-6.ensures

pub returns-in-7 : goal.returns-in-7
unfolding item_of binary_on
returns-in-7 c = rw c.in-7.is c.binary-in-7.ensures

pub returns-in-8 : goal.returns-in-8
unfolding item_of binary_on
returns-in-8 c = rw c.in-8.is c.binary-in-8.ensures

pub returns-in-9 : goal.returns-in-9
unfolding item_of binary_on
returns-in-9 c = rw c.in-9.is c.binary-in-9.ensures

pub returns-in-10 : goal.returns-in-10
unfolding item_of binary_on
returns-in-10 c = rw c.in-10.is c.binary-in-10.ensures

pub returns-in-11 : goal.returns-in-11
unfolding item_of binary_on
returns-in-11 c = rw c.in-11.is c.binary-in-11.ensures

pub returns-in-12 : goal.returns-in-12
unfolding item_of binary_on
returns-in-12 c = rw c.in-12.is c.binary-in-12.ensures

pub returns-in_default : goal.returns-in_default
returns-in_default c =
    let n = c.in_default.in_default-own.rest.0.0.0.0.0.0.0.0.0.0 in
    c.binary-in_default.ensures ∙ binary_word_lem _ _ _ c.requires ((tt, n.0.1), n.1)
