use Rattle.system_tables.specs.Formed.{communication_formed, communications_formed}
use borrow.Author.Rules.{rules}
use Rattle.laws.proofs.Chains.{all_in_range}
use Rattle.std.proofs.lemmas.Iterator.{serves_from_Range}
use Rattle.system_tables.proofs.formed.communications_formed.Goals as goal

pub action_count-n-requires : goal.action_count-n-requires
action_count-n-requires c = rw c.graph_at.ensures c.requires.2.words

pub all-requires-clause-callable : goal.all-requires-clause-callable
all-requires-clause-callable c =
    serves_from_Range (λ x q k. search rules)
    (λ a l h. let known = rw (c.action_count-n.ensures, c.graph_at.ensures) at h in search rules)

pub returns : goal.returns
unfolding communications_formed
returns c =
    rw (c.action_count-n.ensures, c.graph_at.ensures) at (all_in_range (communication_formed c.args.t.now c.args.g) c.action_count-n.result c.all.ensures.ran (λ x b t k. search rules))
