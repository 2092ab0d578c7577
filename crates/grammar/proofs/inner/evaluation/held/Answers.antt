use mathlib.Core.Path.{◌≡◌, sym}
use native.Mathlib.Omega.{arith}
use mir.Syntax.{w32}
use mir.Val.{to_z, of_z}
use Rattle.grammar.specs.Inner.{held_of}
use Rattle.grammar.proofs.HeldLaws.{held_integer, held_none}
use borrow.Author.Rules.{rules}
use Rattle.grammar.proofs.inner.evaluation.held.Goals as goal

pub returns-then-x-lt-FALSE : goal.returns-then-x-lt-FALSE
returns-then-x-lt-FALSE c =
    let e : to_z w32 (of_z w32 c.whole.result) ≡ c.whole.result = search rules in
    rw (e, c.whole.ensures) (sym (held_integer _ c.if-x-lt-FALSE.true))

pub returns-in-4294967296 : goal.returns-in-4294967296
unfolding held_of
returns-in-4294967296 c = rw c.in-4294967296.is

pub returns-in-4294967297 : goal.returns-in-4294967297
unfolding held_of
returns-in-4294967297 c = rw c.in-4294967297.is

pub returns-in_default : goal.returns-in_default
returns-in_default c = sym (held_none _ (omega (arith, c.if-x-lt-FALSE.false, c.in_default.in_default-own.rest.0.1, c.in_default.in_default-own.rest.1)))
