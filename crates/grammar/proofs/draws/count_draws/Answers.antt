use Rattle.std.proofs.Common.{ℕ, arith, rules}
use Rattle.std.proofs.lemmas.Iterator.{YieldsList-from_slice, YieldsList-from_map}
use Rattle.std.proofs.lemmas.Iterator.Consumers.{YieldsList-at, fits_by_from_yields_list}
use Rattle.grammar.specs.Items.{item_of}
use Rattle.grammar.specs.Draws.{draws_in}
use Rattle.grammar.proofs.DrawLaws.{draws_fit}
use Rattle.grammar.proofs.draws.count_draws.Goals as goal

pub sum-requires-clause-fits : goal.sum-requires-clause-fits
sum-requires-clause-fits c =
    fits_by_from_yields_list (λ (w : ℕ). draws_in (item_of w)) c.args.items.now c.map.result _
    (YieldsList-from_map _ _ (YieldsList-at c.map.ensures.source (YieldsList-from_slice c.args.items.now cc)) c.map.ensures.closure (λ x r q k. search rules))
    (omega (arith, draws_fit c.args.items.now, c.iter.ensures.bound))
