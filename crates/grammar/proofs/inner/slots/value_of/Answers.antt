use mathlib.Core.Path.{◌≡◌}
use borrow.Author.Rules.{rules}
use borrow.Author.Tests.{ne_eqb}
use mir.Syntax.{w32}
use mir.Val.{to_z, of_z}
use Rattle.grammar.specs.Slots.{val_of}
use Rattle.grammar.proofs.inner.slots.value_of.Goals as goal

pub returns-then-kind-eq0 : goal.returns-then-kind-eq0
unfolding val_of
returns-then-kind-eq0 c = rw c.if-kind-eq0.true

pub returns : goal.returns
unfolding val_of
returns c =
    let n = c.from_bits.result in
    let e : to_z w32 (of_z w32 n) ≡ n = search rules in
    rw (ne_eqb _ 0 c.if-kind-eq0.false, e, c.from_bits.ensures)
