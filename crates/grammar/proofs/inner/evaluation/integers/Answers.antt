use Rattle.grammar.proofs.HeldLaws.{nothing}
use Rattle.grammar.specs.Items.{item_of}
use Rattle.grammar.specs.Arith.{fitted}
use Rattle.grammar.specs.Evaluation.{boolean}
use Rattle.grammar.specs.Inner.{values_on}
use Rattle.grammar.proofs.OperationLaws.{no_integers}
use Rattle.grammar.proofs.WholeLaws.{sum, difference, equal_as, less_as, most_as}
use mir.Syntax.{w32}
use mir.Val.{to_z, of_z}
use mathlib.Core.Path.{◌≡◌, ap, ◌∙◌}
use native.Mathlib.Omega.{arith}
use borrow.Author.Rules.{rules}
use Rattle.grammar.proofs.inner.evaluation.integers.Goals as goal

pub returns-in-5 : goal.returns-in-5
unfolding item_of values_on
returns-in-5 c = rw c.in-5.is (c.within.ensures ∙ ap fitted (sum c.args.x c.args.y))

pub returns-in-6 : goal.returns-in-6
unfolding item_of values_on
returns-in-6 c =
    rw c.in-6.is (c.within-in-6.ensures
    ∙ ap fitted (difference c.args.x c.args.y (omega arith)))

pub returns-in-7 : goal.returns-in-7
unfolding item_of values_on
returns-in-7 c =
    let a = c.whole.result in
    let b = c.whole-in-7.result in
    let ea : to_z w32 (of_z w32 a) ≡ a = search rules in
    let eb : to_z w32 (of_z w32 b) ≡ b = search rules in
    rw c.in-7.is (rw (
      ea,
      eb,
      c.whole.ensures,
      c.whole-in-7.ensures,
    ) at c.product.ensures)

pub returns-in-8 : goal.returns-in-8
unfolding item_of values_on
returns-in-8 c =
    let a = c.whole-in-8.result in
    let b = c.whole-in-8-2.result in
    let ea : to_z w32 (of_z w32 a) ≡ a = search rules in
    let eb : to_z w32 (of_z w32 b) ≡ b = search rules in
    rw c.in-8.is (rw (
      ea,
      eb,
      c.whole-in-8.ensures,
      c.whole-in-8-2.ensures,
    ) at c.quotient.ensures)

pub returns-in-9 : goal.returns-in-9
unfolding item_of values_on
returns-in-9 c =
    let a = c.whole-in-9.result in
    let b = c.whole-in-9-2.result in
    let ea : to_z w32 (of_z w32 a) ≡ a = search rules in
    let eb : to_z w32 (of_z w32 b) ≡ b = search rules in
    rw c.in-9.is (rw (
      ea,
      eb,
      c.whole-in-9.ensures,
      c.whole-in-9-2.ensures,
    ) at c.remainder.ensures)

pub returns-in-10 : goal.returns-in-10
unfolding item_of values_on
returns-in-10 c =
    rw c.in-10.is (c.boolean.ensures ∙ ap boolean (equal_as c.args.x c.args.y))

pub returns-in-11 : goal.returns-in-11
unfolding item_of values_on
returns-in-11 c =
    rw c.in-11.is (c.boolean-in-11.ensures ∙ ap boolean (less_as c.args.x c.args.y))

pub returns-in-12 : goal.returns-in-12
unfolding item_of values_on
returns-in-12 c =
    rw c.in-12.is (c.boolean-in-12.ensures ∙ ap boolean (most_as c.args.x c.args.y))

pub returns-in_default : goal.returns-in_default
returns-in_default c = nothing ∙ no_integers _ _ c.args.w c.in_default.in_default-own.rest
