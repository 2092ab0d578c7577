use borrow.Author.Tests.{eq-eqb, le-leb}
use Rattle.laws.proofs.BelowLaws.{and_yes}
use Rattle.graph_tables.specs.Formed.{send_formed}
use Rattle.graph_tables.proofs.formed.send_formed.Goals as goal

pub returns : goal.returns
unfolding send_formed
returns c =
    and_yes (eq-eqb _ _ (rw c.reset_count.ensures at c.if-reset_count-ne0.false))
    (and_yes (le-leb _ _ (rw c.effect_count-n.ensures at c.if-n-gt-MESSAGE.false))
    (rw c.effect_count-n.ensures at c.expressions_formed.ensures))
