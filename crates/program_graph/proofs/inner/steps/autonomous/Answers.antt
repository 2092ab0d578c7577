use Rattle.graph_tables.specs.Answers.{admitted}
use Rattle.std.specs.Prelude.{Err}
use mathlib.Core.Path.{refl}
use Rattle.laws.proofs.Tests.{held, failed}
use Rattle.graph_tables.specs.Refusals.{refusal}
use Rattle.program_graph.specs.Running.{autonomous_of}
use Rattle.program_graph.specs.Inner.{DidCall}
use Rattle.program_graph.proofs.LeaveLaws.{rung_stopped, rung_passed, few_places, leaves_same, leaves_moved}
use Rattle.run_steps.proofs.VarLaws.{vars_same}
use Rattle.program_graph.proofs.inner.steps.autonomous.Goals as goal

pub returns-then-not-ready_still : goal.returns-then-not-ready_still
unfolding autonomous_of
returns-then-not-ready_still c =
    rung_stopped (DidCall c.args.t.now c.args.r.now (Err (refusal 8)) c.args.r.now) _ _
    (failed c.ready_still.ensures c.if-not-ready_still.true) (refl, leaves_same c.args.t.now c.args.r.now c.requires.1)

pub move_to-requires : goal.move_to-requires
move_to-requires c =
    (c.requires.1.words, few_places c.args.t.now c.args.r.now c.requires.0 c.requires.1 _ c.requires.2)

pub returns : goal.returns
unfolding autonomous_of
returns c =
    rung_passed (DidCall c.args.t.now c.args.r.now admitted c.move_to.new.r) _ _
    (held c.ready_still.ensures c.if-not-ready_still.false) (
      refl,
      leaves_moved c.args.t.now c.args.r.now _ c.args.posts.now _ _ _ c.requires.1 c.requires.2 c.move_to.ensures
          (vars_same _ _),
    )
