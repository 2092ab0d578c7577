use borrow.Author.Rules.{rules}
use borrow.Author.Tests.{le-leb}
use Rattle.laws.proofs.BelowLaws.{and_yes}
use Rattle.laws.proofs.Chains.{all_in_range}
use Rattle.graph_tables.specs.Formed.{resets_formed}
use Rattle.graph_tables.proofs.formed.resets_formed.Goals as goal

pub returns : goal.returns
unfolding resets_formed
returns c =
    and_yes (le-leb _ _ (rw c.reset_count-n.ensures at c.if-n-gt-RESETS.false))
    (rw (← c.reset_count-n.ensures) (all_in_range _ _ c.all.ensures.ran (λ x b t k. search rules)))
