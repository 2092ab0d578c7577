use native.Mathlib.Omega.{arith}
use borrow.Author.Rules.{rules}
use mathlib.Core.Path.{refl}
use Rattle.std.proofs.lemmas.Iterator.{YieldsList-from_range, YieldsList-from_map}
use Prim.Native.Nat.{◌≤◌}
use Rattle.std.proofs.lemmas.List.FromFn.{length-range_with_len}
use Rattle.graph_tables.specs.Sizes.{effect_room}
use Rattle.std.proofs.lemmas.Iterator.Consumers.{YieldsList-at}
use Rattle.std.proofs.lemmas.Iterator.Adapters.{fits_from_length, at_most_from_yields_List}
use Rattle.laws.proofs.RangeSums.{sum_in_range}
use Rattle.graph_tables.specs.Formed.{effect_draws}
use Rattle.graph_tables.proofs.inner.tests.all_draws.Goals as goal

pub sum-requires-clause-fits : goal.sum-requires-clause-fits
sum-requires-clause-fits c =
    let r : c.args.n ≤ effect_room = omega (arith, c.requires.2) in
    fits_from_length _ _ effect_room _
    (at_most_from_yields_List (YieldsList-at c.map.ensures.source (YieldsList-from_range 0 c.args.n c.args.n refl (omega arith)))
    (omega (arith, length-range_with_len 0 c.args.n)))
    c.map.ensures.closure (omega arith) (λ x r q k. search (rules, arith))

pub returns : goal.returns
returns c =
    sum_in_range (effect_draws c.args.t.now c.args.a) c.args.n c.map.result _ c.sum.ensures.ran
    (YieldsList-from_map _ (effect_draws c.args.t.now c.args.a) (YieldsList-at c.map.ensures.source (YieldsList-from_range 0 c.args.n c.args.n refl (omega arith)))
    c.map.ensures.closure (λ x r q k. search rules))
