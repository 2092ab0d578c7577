use mir.Syntax.{w32}
use mir.Val.{to_z, of_z}
use mathlib.Core.Path.{◌≡◌, ◌∙◌}
use borrow.Author.Rules.{rules}
use Rattle.grammar.specs.Slots.{FitVal}
use Rattle.grammar.proofs.inner.slots.payload_of.Goals as goal

pub returns-then-b : goal.returns-then-b
unfolding FitVal
returns-then-b c = (search rules, rw c.in-Boolean.is tt)

pub returns-else-b : goal.returns-else-b
unfolding FitVal
returns-else-b c = (search rules, rw c.in-Boolean.is tt)

pub returns-in-Integer : goal.returns-in-Integer
unfolding FitVal
returns-in-Integer c =
    let n = c.in-Integer.n in
    let e : to_z w32 (of_z w32 n) ≡ n = search rules in
    (c.bits_of.ensures ∙ rw (c.in-Integer.is, e), rw c.in-Integer.is (search rules))
