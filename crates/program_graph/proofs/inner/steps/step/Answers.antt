use Rattle.std.specs.Prelude.{Err}
use mathlib.Core.Path.{refl}
use borrow.Author.Tests.{eq-eqb, ne_eqb}
use Rattle.laws.proofs.Tests.{held, failed}
use Rattle.graph_tables.specs.Refusals.{refusal}
use Rattle.program_graph.specs.Running.{step_of}
use Rattle.program_graph.specs.Inner.{DidCall}
use Rattle.program_graph.proofs.LeaveLaws.{rung_stopped, rung_passed, leaves_same, cond_taken, cond_left}
use Rattle.program_graph.proofs.inner.steps.step.Goals as goal

pub returns-then-posts-r : goal.returns-then-posts-r
unfolding step_of
returns-then-posts-r c =
    rung_stopped (DidCall c.args.t.now c.args.r.now (Err (refusal 7)) c.args.r.now) _ _ (ne_eqb _ _ c.if-posts-r.true)
    (refl, leaves_same c.args.t.now c.args.r.now c.requires.1)

pub returns-then-not-posts_known : goal.returns-then-not-posts_known
unfolding step_of
returns-then-not-posts_known c =
    let did = DidCall c.args.t.now c.args.r.now (Err (refusal 3)) c.args.r.now in
    rung_passed did _ _ (eq-eqb _ _ c.if-posts-r.false)
    (rung_stopped did _ _ (failed c.posts_known.ensures c.if-not-posts_known.true)
    (refl, leaves_same c.args.t.now c.args.r.now c.requires.1))

pub returns-then-action : goal.returns-then-action
unfolding step_of
returns-then-action c =
    let did = DidCall c.args.t.now c.args.r.now c.autonomous.result c.autonomous.new.r in
    rung_passed did _ _ (eq-eqb _ _ c.if-posts-r.false)
    (rung_passed did _ _ (held c.posts_known.ensures c.if-not-posts_known.false)
    (cond_taken did _ _ (eq-eqb _ _ c.if-action.true) c.autonomous.ensures))

pub returns : goal.returns
unfolding step_of
returns c =
    let did = DidCall c.args.t.now c.args.r.now c.acted.result c.acted.new.r in
    rung_passed did _ _ (eq-eqb _ _ c.if-posts-r.false)
    (rung_passed did _ _ (held c.posts_known.ensures c.if-not-posts_known.false)
    (cond_left did _ _ (ne_eqb _ _ c.if-action.false) c.acted.ensures))
