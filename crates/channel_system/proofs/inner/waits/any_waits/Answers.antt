use Rattle.std.proofs.Common.{rules, refl}
use borrow.Author.Tests.{tests}
use Rattle.std.proofs.lemmas.Iterator.{serves_from_Range}
use Rattle.laws.proofs.Ranges.{any_range}
use Rattle.channel_system.specs.Facts.{Fitting}
use Rattle.channel_system.specs.Waits.{graph_waits}
use Rattle.channel_system.proofs.inner.waits.any_waits.Goals as goal

pub any-requires-clause-callable : goal.any-requires-clause-callable
any-requires-clause-callable c =
    serves_from_Range (λ x b k. search rules) (λ g l h.
    let fits : Fitting c.args.t.now c.args.s.now g = record { table = c.requires.0; state = c.requires.1; known = rw c.graph_count.ensures at h } in
    search rules)

pub returns : goal.returns
returns c =
    rw c.graph_count.ensures at
    (any_range _ _ _ _ c.graph_count.result (graph_waits c.args.t.now c.args.s.now) c.any.ensures.ran refl (λ x q k. search (rules, tests)) (λ x q k. search (rules, tests)))
