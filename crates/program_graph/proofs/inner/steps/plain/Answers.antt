use Rattle.graph_tables.specs.Answers.{admitted}
use Rattle.std.specs.Prelude.{Err}
use mathlib.Core.Path.{refl}
use Rattle.laws.proofs.Tests.{held, failed}
use Rattle.graph_tables.specs.Refusals.{refusal}
use Rattle.program_graph.specs.Running.{plain_of}
use Rattle.program_graph.specs.Inner.{DidCall}
use Rattle.program_graph.proofs.LeaveLaws.{rung_stopped, rung_passed, few_places, leaves_same, effects_left, effects_moved}
use Rattle.program_graph.proofs.inner.steps.plain.Goals as goal

pub returns-then-not-ready_on : goal.returns-then-not-ready_on
unfolding plain_of
returns-then-not-ready_on c =
    let ready = rw c.times_after.ensures at c.ready_on.ensures in
    rung_stopped (DidCall c.args.t.now c.args.r.now (Err (refusal 8)) c.args.r.now) _ _
    (failed ready c.if-not-ready_on.true) (refl, leaves_same c.args.t.now c.args.r.now c.requires.1)

pub returns-then-not-run_effects : goal.returns-then-not-run_effects
unfolding plain_of
returns-then-not-run_effects c =
    let ready = rw c.times_after.ensures at c.ready_on.ensures in
    let none = failed c.run_effects.ensures.answer c.if-not-run_effects.true in
    let did = DidCall c.args.t.now c.args.r.now (Err (refusal 26)) c.run_effects.new.r in
    rung_passed did _ _ (held ready c.if-not-ready_on.false)
    (rung_stopped did _ _ none
    (refl, effects_left c.args.t.now c.args.a c.args.word c.args.r.now c.requires.1 c.run_effects.ensures none))

pub move_to-requires : goal.move_to-requires
move_to-requires c =
    (c.set_times.ensures.words, few_places c.args.t.now c.args.r.now c.requires.0 c.requires.1 _ c.requires.2)

pub returns : goal.returns
unfolding plain_of
returns c =
    let ready = rw c.times_after.ensures at c.ready_on.ensures in
    let all = held c.run_effects.ensures.answer c.if-not-run_effects.false in
    let times = rw c.times_after.ensures at c.set_times.ensures in
    let did = DidCall c.args.t.now c.args.r.now admitted c.move_to.new.r in
    rung_passed did _ _ (held ready c.if-not-ready_on.false)
    (rung_passed did _ _ all (
      refl,
      effects_moved c.args.t.now c.args.a c.args.word c.args.r.now c.requires.1 c.run_effects.ensures
          c.args.posts.now _ _ _
          c.requires.2 all times c.move_to.ensures,
    ))
