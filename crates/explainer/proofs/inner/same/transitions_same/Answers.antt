use borrow.Author.Rules.{rules}
use Rattle.std.proofs.lemmas.Iterator.{serves_from_Range}
use Rattle.laws.proofs.Chains.{all_in_range}
use Rattle.explainer.specs.Same.{transition_same}
use Rattle.explainer.proofs.inner.same.transitions_same.Goals as goal

pub all-requires-clause-callable : goal.all-requires-clause-callable
all-requires-clause-callable c =
    serves_from_Range (λ x b k. search rules) (λ i m h. let known = rw c.transition_count.ensures at h in search rules)

pub returns : goal.returns
returns c = rw c.transition_count.ensures at (all_in_range (transition_same c.args.t.now c.args.guards.now c.args.limits.now c.args.g) c.transition_count.result c.all.ensures.ran (λ x b t k. search rules))
