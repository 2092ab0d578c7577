use Prim.Native.Nat.{◌<◌}
use mathlib.Core.Path.{◌∙◌}
use native.Mathlib.Omega.{arith}
use Rattle.system_tables.specs.Sizes.{graph_room}
use Rattle.channel_system.proofs.SpokenLaws.{spoken_none, spoken_some, channel_small}
use Rattle.channel_system.proofs.inner.spoken.spoken_by.Goals as goal

pub action_count-requires : goal.action_count-requires
action_count-requires c =
    rw c.graph_at.ensures (c.requires.0.graph c.args.g c.requires.1).words

pub returns-then-action_count-a : goal.returns-then-action_count-a
returns-then-action_count-a c =
    spoken_none c.args.t.now c.args.g c.args.a (rw (c.action_count.ensures, c.graph_at.ensures) at c.if-action_count-a.true)

pub communication_of-requires : goal.communication_of-requires
communication_of-requires c =
    let known = rw (c.action_count.ensures, c.graph_at.ensures) at c.if-action_count-a.false in
    let G = c.requires.0.graph c.args.g c.requires.1 in
    let small : c.args.g < graph_room = omega (arith, c.requires.1, c.requires.0.graphs) in (
      c.requires.0.words,
      small,
      omega (arith, known, G.counts.actions),
      channel_small c.args.t.now c.args.g c.args.a c.requires.0 c.requires.1 known,
    )

pub returns : goal.returns
returns c =
    c.communication_of.ensures
    ∙ spoken_some c.args.t.now c.args.g c.args.a (rw (c.action_count.ensures, c.graph_at.ensures) at c.if-action_count-a.false)
