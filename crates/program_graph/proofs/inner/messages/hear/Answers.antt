use Rattle.graph_tables.specs.Answers.{admitted}
use Rattle.std.specs.Prelude.{Err}
use mathlib.Core.Path.{refl}
use Rattle.laws.proofs.Tests.{held, failed}
use Rattle.graph_tables.specs.Refusals.{refusal}
use Rattle.program_graph.specs.Messaging.{heard_of}
use Rattle.program_graph.specs.Inner.{DidCall}
use Rattle.program_graph.proofs.LeaveLaws.{rung_stopped, rung_passed, leaves_same, few_places, taken_moved}
use Rattle.program_graph.proofs.inner.messages.hear.Goals as goal

pub returns-then-not-message_fits : goal.returns-then-not-message_fits
unfolding heard_of
returns-then-not-message_fits c =
    rung_stopped (DidCall c.args.t.now c.args.r.now (Err (refusal 5)) c.args.r.now) _ _
    (failed c.message_fits.ensures c.if-not-message_fits.true) (refl, leaves_same c.args.t.now c.args.r.now c.requires.1)

pub move_to-requires : goal.move_to-requires
move_to-requires c =
    (c.take_in.ensures.0.words, few_places c.args.t.now c.args.r.now c.requires.0 c.requires.1 _ c.requires.2)

pub returns : goal.returns
unfolding heard_of
returns c =
    rung_passed (DidCall c.args.t.now c.args.r.now admitted c.move_to.new.r) _ _
    (held c.message_fits.ensures c.if-not-message_fits.false) (
      refl,
      taken_moved c.args.t.now c.args.r.now c.args.posts.now _ _ _ c.requires.1 c.requires.2 c.take_in.ensures.0
          c.take_in.ensures.1
          c.move_to.ensures,
    )
