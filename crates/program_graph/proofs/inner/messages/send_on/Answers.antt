use mathlib.Core.Path.{ap}
use borrow.Author.Tests.{eq-eqb, ne_eqb, eqb-true, ltb-true}
use Rattle.laws.proofs.Tests.{held, failed}
use Rattle.laws.proofs.BelowLaws.{and_first, and_rest}
use Rattle.program_graph.specs.Messaging.{sent_of}
use Rattle.program_graph.specs.Inner.{DidSend}
use Rattle.program_graph.proofs.LeaveLaws.{rung_stopped, rung_passed, unsaid}
use Rattle.std.specs.Prelude.{Err}
use Rattle.graph_tables.specs.Refusals.{refusal}
use mathlib.Core.Bool.{not}
use Rattle.program_graph.proofs.inner.messages.send_on.Goals as goal

pub returns-then-action : goal.returns-then-action
unfolding sent_of
returns-then-action c =
    rung_stopped (DidSend c.args.t.now c.args.r.now (Err (refusal 14)) c.args.r.now) _ _ (ap not (eq-eqb _ _ c.if-action.true))
    (unsaid c.args.t.now c.args.r.now c.requires.1 14)

pub returns-then-posts-r : goal.returns-then-posts-r
unfolding sent_of
returns-then-posts-r c =
    let did = DidSend c.args.t.now c.args.r.now (Err (refusal 7)) c.args.r.now in
    rung_passed did _ _ (ap not (ne_eqb _ _ c.if-action.false))
    (rung_stopped did _ _ (ne_eqb _ _ c.if-posts-r.true) (unsaid c.args.t.now c.args.r.now c.requires.1 7))

pub returns-then-not-ready_still : goal.returns-then-not-ready_still
unfolding sent_of
returns-then-not-ready_still c =
    let did = DidSend c.args.t.now c.args.r.now (Err (refusal 8)) c.args.r.now in
    rung_passed did _ _ (ap not (ne_eqb _ _ c.if-action.false)) (rung_passed did _ _ (eq-eqb _ _ c.if-posts-r.false)
    (rung_stopped did _ _ (failed c.ready_still.ensures c.if-not-ready_still.true)
    (unsaid c.args.t.now c.args.r.now c.requires.1 8)))

pub returns-then-not-is_kind : goal.returns-then-not-is_kind
unfolding sent_of
returns-then-not-is_kind c =
    let did = DidSend c.args.t.now c.args.r.now (Err (refusal 14)) c.args.r.now in
    rung_passed did _ _ (ap not (ne_eqb _ _ c.if-action.false)) (rung_passed did _ _ (eq-eqb _ _ c.if-posts-r.false)
    (rung_passed did _ _ (held c.ready_still.ensures c.if-not-ready_still.false)
    (rung_stopped did _ _ (failed c.is_kind.ensures c.if-not-is_kind.true)
    (unsaid c.args.t.now c.args.r.now c.requires.1 14))))

pub say-requires : goal.say-requires
say-requires c =
    let kind = held c.is_kind.ensures c.if-not-is_kind.false in
    (c.requires.0, c.requires.1, c.if-posts-r.false, ltb-true _ _ (and_first _ _ kind), eqb-true _ _ (and_rest _ _ kind))

pub returns : goal.returns
unfolding sent_of
returns c =
    let did = DidSend c.args.t.now c.args.r.now c.say.result c.say.new.r in
    rung_passed did _ _ (ap not (ne_eqb _ _ c.if-action.false)) (rung_passed did _ _ (eq-eqb _ _ c.if-posts-r.false)
    (rung_passed did _ _ (held c.ready_still.ensures c.if-not-ready_still.false)
    (rung_passed did _ _ (held c.is_kind.ensures c.if-not-is_kind.false) c.say.ensures)))
