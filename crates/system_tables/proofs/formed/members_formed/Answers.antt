use Rattle.laws.proofs.BelowLaws.{and_yes, and_no}
use Rattle.laws.proofs.Tests.{held, failed}
use Prim.Native.Nat.{◌<◌}
use Rattle.system_tables.specs.Sizes.{graph_room, channel_room}
use Rattle.system_tables.specs.Sound.{ChannelsFormed}
use native.Mathlib.Omega.{arith}
use Rattle.system_tables.specs.Formed.{graph_formed, channel_formed, communications_formed, members_formed}
use Rattle.system_tables.proofs.FormedLaws.{few_graphs, few_channels, graphs_sound}
use borrow.Author.Rules.{rules}
use Rattle.laws.proofs.Chains.{all_in_range}
use Rattle.std.proofs.lemmas.Iterator.{serves_from_Range}
use Rattle.system_tables.proofs.formed.members_formed.Goals as goal

pub all-requires-clause-callable : goal.all-requires-clause-callable
all-requires-clause-callable c =
    serves_from_Range (λ x q k. search rules)
    (λ g l h. let few : g < graph_room = omega (arith, c.graph_count-n.ensures, few_graphs _ c.requires.1) in search rules)

pub returns-then-not-all : goal.returns-then-not-all
unfolding members_formed
returns-then-not-all c =
    and_no _ (rw c.graph_count-n.ensures at (failed (all_in_range (graph_formed c.args.t.now c.args.building) c.graph_count-n.result c.all.ensures.ran (λ x b t k. search rules)) c.if-not-all.true))

pub all-requires-2-clause-callable : goal.all-requires-2-clause-callable
all-requires-2-clause-callable c =
    serves_from_Range (λ x q k. search rules)
    (λ q l h. let few : q < channel_room = omega (arith, c.channel_count.ensures, few_channels _ c.requires.1) in search rules)

pub returns-then-not-all-2 : goal.returns-then-not-all-2
unfolding members_formed
returns-then-not-all-2 c =
    and_yes (rw c.graph_count-n.ensures at (held (all_in_range (graph_formed c.args.t.now c.args.building) c.graph_count-n.result c.all.ensures.ran (λ x b t k. search rules)) c.if-not-all.false))
    (and_no _ (rw c.channel_count.ensures at (failed (all_in_range (channel_formed c.args.t.now) c.channel_count.result c.all-2.ensures.ran (λ x b t k. search rules)) c.if-not-all-2.true)))

pub all-requires-3-clause-callable : goal.all-requires-3-clause-callable
all-requires-3-clause-callable c =
    let t = c.args.t.now in
    let p = c.requires in
    let formed : ChannelsFormed t = (
      p.0,
      few_channels t p.1,
      rw c.channel_count.ensures at (held (all_in_range (channel_formed t) c.channel_count.result c.all-2.ensures.ran (λ x b t k. search rules)) c.if-not-all-2.false),
    ) in
    let graphs = held (all_in_range (graph_formed t c.args.building) c.graph_count-n.result c.all.ensures.ran (λ x b t k. search rules)) c.if-not-all.false in
    serves_from_Range (λ x q k. search rules) (λ g l h.
    let few : g < graph_room = omega (arith, c.graph_count-n.ensures, few_graphs t p.1) in
    let sound = graphs_sound t c.args.building c.graph_count-n.result graphs g h in
    search rules)

pub returns : goal.returns
unfolding members_formed
returns c =
    and_yes (rw c.graph_count-n.ensures at (held (all_in_range (graph_formed c.args.t.now c.args.building) c.graph_count-n.result c.all.ensures.ran (λ x b t k. search rules)) c.if-not-all.false))
    (and_yes (rw c.channel_count.ensures at (held (all_in_range (channel_formed c.args.t.now) c.channel_count.result c.all-2.ensures.ran (λ x b t k. search rules)) c.if-not-all-2.false))
    (rw c.graph_count-n.ensures at (all_in_range (communications_formed c.args.t.now) c.graph_count-n.result c.all-3.ensures.ran (λ x b t k. search rules))))
