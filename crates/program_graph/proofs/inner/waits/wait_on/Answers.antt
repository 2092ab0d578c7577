use Rattle.graph_tables.specs.Answers.{admitted}
use Rattle.std.specs.Prelude.{Err}
use mathlib.Core.Path.{refl, ap, ◌∙◌}
use lib.ListN.{length}
use Rattle.laws.proofs.Tests.{held, failed}
use Rattle.graph_tables.specs.Refusals.{refusal}
use Rattle.run_steps.proofs.StepLaws.{shifted_length}
use Rattle.program_graph.specs.Running.{waited_of}
use Rattle.program_graph.specs.Inner.{DidCall}
use Rattle.program_graph.proofs.WordLaws.{times_length}
use Rattle.program_graph.proofs.LeaveLaws.{rung_stopped, rung_passed, leaves_same, leaves_later}
use Rattle.program_graph.proofs.inner.waits.wait_on.Goals as goal

pub returns-then-not-wait_fits : goal.returns-then-not-wait_fits
unfolding waited_of
returns-then-not-wait_fits c =
    rung_stopped (DidCall c.args.t.now c.args.r.now (Err (refusal 26)) c.args.r.now) _ _
    (failed c.wait_fits.ensures c.if-not-wait_fits.true) (refl, leaves_same c.args.t.now c.args.r.now c.requires.1)

pub times_later-requires : goal.times_later-requires
times_later-requires c =
    (c.requires.0, c.requires.1, refl, held c.wait_fits.ensures c.if-not-wait_fits.false)

pub places_hold-requires : goal.places_hold-requires
places_hold-requires c =
    (c.requires.0, c.requires.1, ap length c.times_later.ensures ∙ shifted_length _ _ _ ∙ times_length c.args.r.now c.requires.1.words)

pub returns-then-not-places_hold : goal.returns-then-not-places_hold
unfolding waited_of
returns-then-not-places_hold c =
    let holds = rw c.times_later.ensures at c.places_hold.ensures in
    let did = DidCall c.args.t.now c.args.r.now (Err (refusal 9)) c.args.r.now in
    rung_passed did _ _ (held c.wait_fits.ensures c.if-not-wait_fits.false)
    (rung_stopped did _ _ (failed holds c.if-not-places_hold.true) (refl, leaves_same c.args.t.now c.args.r.now c.requires.1))

pub set_times-requires : goal.set_times-requires
set_times-requires c =
    (c.requires.1.words, ap length c.times_later.ensures ∙ shifted_length _ _ _ ∙ times_length c.args.r.now c.requires.1.words)

pub returns : goal.returns
unfolding waited_of
returns c =
    let holds = rw c.times_later.ensures at c.places_hold.ensures in
    let times = rw c.times_later.ensures at c.set_times.ensures in
    let did = DidCall c.args.t.now c.args.r.now admitted c.set_times.new.r in
    rung_passed did _ _ (held c.wait_fits.ensures c.if-not-wait_fits.false)
    (rung_passed did _ _ (held holds c.if-not-places_hold.false) (refl, leaves_later c.args.t.now c.args.r.now _ _ c.requires.1 times))
