use Rattle.std.specs.Prelude.{Err}
use mathlib.Core.Path.{refl, ap}
use borrow.Author.Tests.{eq-eqb, ne_eqb, eqb-true, ltb-true}
use Rattle.laws.proofs.Tests.{held, failed}
use Rattle.laws.proofs.BelowLaws.{and_first, and_rest}
use Rattle.graph_tables.specs.Refusals.{refusal}
use Rattle.program_graph.specs.Messaging.{received_of}
use Rattle.program_graph.specs.Inner.{DidCall}
use Rattle.program_graph.proofs.LeaveLaws.{rung_stopped, rung_passed, leaves_same}
use mathlib.Core.Bool.{not}
use Rattle.program_graph.proofs.inner.messages.receive_on.Goals as goal

pub returns-then-action : goal.returns-then-action
unfolding received_of
returns-then-action c =
    rung_stopped (DidCall c.args.t.now c.args.r.now (Err (refusal 15)) c.args.r.now) _ _
    (ap not (eq-eqb _ _ c.if-action.true)) (refl, leaves_same c.args.t.now c.args.r.now c.requires.1)

pub returns-then-posts-r : goal.returns-then-posts-r
unfolding received_of
returns-then-posts-r c =
    let did = DidCall c.args.t.now c.args.r.now (Err (refusal 7)) c.args.r.now in
    rung_passed did _ _ (ap not (ne_eqb _ _ c.if-action.false))
    (rung_stopped did _ _ (ne_eqb _ _ c.if-posts-r.true) (refl, leaves_same c.args.t.now c.args.r.now c.requires.1))

pub returns-then-not-ready_still : goal.returns-then-not-ready_still
unfolding received_of
returns-then-not-ready_still c =
    let did = DidCall c.args.t.now c.args.r.now (Err (refusal 8)) c.args.r.now in
    rung_passed did _ _ (ap not (ne_eqb _ _ c.if-action.false)) (rung_passed did _ _ (eq-eqb _ _ c.if-posts-r.false)
    (rung_stopped did _ _ (failed c.ready_still.ensures c.if-not-ready_still.true)
    (refl, leaves_same c.args.t.now c.args.r.now c.requires.1)))

pub returns-then-not-is_kind : goal.returns-then-not-is_kind
unfolding received_of
returns-then-not-is_kind c =
    let did = DidCall c.args.t.now c.args.r.now (Err (refusal 15)) c.args.r.now in
    rung_passed did _ _ (ap not (ne_eqb _ _ c.if-action.false)) (rung_passed did _ _ (eq-eqb _ _ c.if-posts-r.false)
    (rung_passed did _ _ (held c.ready_still.ensures c.if-not-ready_still.false)
    (rung_stopped did _ _ (failed c.is_kind.ensures c.if-not-is_kind.true)
    (refl, leaves_same c.args.t.now c.args.r.now c.requires.1))))

pub hear-requires : goal.hear-requires
hear-requires c =
    let kind = held c.is_kind.ensures c.if-not-is_kind.false in
    (c.requires.0, c.requires.1, c.if-posts-r.false, ltb-true _ _ (and_first _ _ kind), eqb-true _ _ (and_rest _ _ kind))

pub returns : goal.returns
unfolding received_of
returns c =
    let did = DidCall c.args.t.now c.args.r.now c.hear.result c.hear.new.r in
    rung_passed did _ _ (ap not (ne_eqb _ _ c.if-action.false)) (rung_passed did _ _ (eq-eqb _ _ c.if-posts-r.false)
    (rung_passed did _ _ (held c.ready_still.ensures c.if-not-ready_still.false)
    (rung_passed did _ _ (held c.is_kind.ensures c.if-not-is_kind.false) c.hear.ensures)))
