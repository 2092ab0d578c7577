use Rattle.grammar.specs.Inner.{held_of}
use borrow.Author.Tests.{lt-ltb, le-ltb}
use mir.Syntax.{w32}
use mir.Val.{to_z, of_z}
use mathlib.Core.Path.{◌≡◌, ◌∙◌}
use borrow.Author.Rules.{rules}
use Rattle.grammar.proofs.inner.evaluation.number.Goals as goal

pub returns-then-payload-lt4294967296 : goal.returns-then-payload-lt4294967296
returns-then-payload-lt4294967296 c =
    let n = c.from_bits.result in
    let e : to_z w32 (of_z w32 n) ≡ n = search rules in
    rw (lt-ltb _ _ c.if-payload-lt4294967296.true) (c.integer.ensures ∙ rw (e, c.from_bits.ensures))

pub returns : goal.returns
unfolding held_of
returns c = rw (le-ltb _ _ c.if-payload-lt4294967296.false)
