use mathlib.Core.Path.{sym, ◌∙◌}
use Rattle.graph_tables.proofs.FormedLaws.{counted}
use Rattle.graph_tables.proofs.formed.well_formed.Goals as goal

pub parts_formed-requires : goal.parts_formed-requires
parts_formed-requires c = (c.if-t-ne-WORDS.false, counted _ (sym c.counts_formed.ensures ∙ c.if-not-counts_formed.false))
