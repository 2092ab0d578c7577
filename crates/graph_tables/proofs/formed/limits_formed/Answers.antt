use borrow.Author.Rules.{rules}
use borrow.Author.Tests.{le-leb}
use Rattle.laws.proofs.BelowLaws.{and_yes}
use Rattle.laws.proofs.Chains.{all_in_range}
use Rattle.graph_tables.specs.Formed.{limits_formed}
use Rattle.graph_tables.proofs.formed.limits_formed.Goals as goal

pub returns : goal.returns
unfolding limits_formed
returns c = and_yes (le-leb _ _ c.if-n-gt-LIMITS.false) (all_in_range _ _ c.all.ensures.ran (λ x b t k. search rules))
