use borrow.Author.Rules.{rules}
use Rattle.std.proofs.lemmas.Iterator.{serves_from_Range}
use Rattle.laws.proofs.Chains.{all_in_range}
use Rattle.channel_system.specs.Facts.{Fitting}
use Rattle.channel_system.specs.Waits.{clocks_fit}
use Rattle.channel_system.proofs.inner.waits.all_clocks_fit.Goals as goal

pub all-requires-clause-callable : goal.all-requires-clause-callable
all-requires-clause-callable c =
    serves_from_Range (λ x b k. search rules) (λ g l h.
    let fits : Fitting c.args.t.now c.args.s.now g = record { table = c.requires.0; state = c.requires.1; known = rw c.graph_count.ensures at h } in
    search rules)

pub returns : goal.returns
returns c =
    rw c.graph_count.ensures at (all_in_range (clocks_fit c.args.s.now c.args.delta) c.graph_count.result c.all.ensures.ran (λ x b t k. search rules))
