use mathlib.Core.Path.{◌≡◌, ap, ◌∙◌}
use native.Mathlib.Omega.{arith}
use lib.ListN.{drop, length-take}
use Rattle.grammar.specs.Draws.{draws_of}
use Rattle.grammar.proofs.DrawLaws.{draws_few}
use Rattle.graph_tables.specs.Layout.{effect_slot}
use Rattle.graph_tables.specs.Words.{effect_items, effect_length}
use Rattle.graph_tables.specs.Formed.{effect_draws}
use Rattle.graph_tables.proofs.inner.tests.effect_draws.Goals as goal

pub returns : goal.returns
unfolding effect_draws
returns c =
    let items = effect_items c.args.t.now c.args.a c.args.e in
    let e : c.count_draws.result ≡ draws_of items = c.count_draws.ensures ∙ ap draws_of c.effect_items.ensures in
    (e, omega (arith, e, draws_few items, length-take (effect_length c.args.t.now c.args.a c.args.e) (drop (effect_slot c.args.a c.args.e) c.args.t.now), c.requires.3))
