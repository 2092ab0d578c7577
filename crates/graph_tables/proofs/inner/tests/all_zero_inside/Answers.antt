use borrow.Author.Rules.{rules}
use Rattle.laws.proofs.Chains.{all_in_range}
use Rattle.graph_tables.proofs.inner.tests.all_zero_inside.Goals as goal

pub returns : goal.returns
returns c = all_in_range _ _ c.all.ensures.ran (λ x b t k. search rules)
