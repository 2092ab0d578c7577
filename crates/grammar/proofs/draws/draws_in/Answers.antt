use Rattle.grammar.specs.Items.{item_of}
use Rattle.grammar.proofs.ItemLaws.{no_draw}
use mathlib.Core.Path.{sym}
use Rattle.grammar.proofs.draws.draws_in.Goals as goal

pub returns-then-w-eq-DRAW : goal.returns-then-w-eq-DRAW
unfolding item_of
returns-then-w-eq-DRAW c = rw c.if-w-eq-DRAW.true

pub returns : goal.returns
returns c = sym (no_draw _ c.if-w-eq-DRAW.false)
