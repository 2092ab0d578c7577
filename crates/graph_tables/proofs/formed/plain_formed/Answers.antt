use mathlib.Core.Path.{sym, ◌∙◌}
use borrow.Author.Tests.{le-leb}
use Rattle.laws.proofs.BelowLaws.{and_yes}
use Rattle.graph_tables.specs.Formed.{plain_formed}
use Rattle.graph_tables.proofs.formed.plain_formed.Goals as goal

pub returns : goal.returns
unfolding plain_formed
returns c =
    and_yes (sym c.resets_formed.ensures ∙ c.if-not-resets_formed.false)
    (and_yes (le-leb _ _ (rw c.effect_count-n.ensures at c.if-n-gt-EFFECTS.false))
    (rw c.effect_count-n.ensures at c.effects_formed.ensures))
