use native.Mathlib.Nat.{div-one}
use Rattle.grammar.specs.Items.{item_of}
use Rattle.grammar.proofs.ItemLaws.{no_draw}
use mathlib.Core.Path.{sym}
use Rattle.grammar.proofs.draws.left.Goals as goal

pub returns-then-w-eq-DRAW : goal.returns-then-w-eq-DRAW
unfolding item_of
returns-then-w-eq-DRAW c = rw c.if-w-eq-DRAW.true

pub returns : goal.returns
returns c = rw (no_draw _ c.if-w-eq-DRAW.false) (sym (div-one _))
