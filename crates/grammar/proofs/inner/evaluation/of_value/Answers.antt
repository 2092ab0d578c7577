use mir.Syntax.{w32}
use mir.Val.{to_z, of_z}
use mathlib.Core.Path.{◌≡◌, ◌∙◌}
use borrow.Author.Rules.{rules}
use Rattle.grammar.proofs.inner.evaluation.of_value.Goals as goal

pub returns-in-Boolean : goal.returns-in-Boolean
returns-in-Boolean c = c.boolean.ensures ∙ cc

pub returns-in-Integer : goal.returns-in-Integer
returns-in-Integer c =
    let n = c.in-Integer.n in
    let e : to_z w32 (of_z w32 n) ≡ n = search rules in
    c.integer.ensures ∙ rw (c.in-Integer.is, e)
