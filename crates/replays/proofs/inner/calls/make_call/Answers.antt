use mathlib.Core.Path.{sym, ap, ◌∙◌}
use Rattle.recordings.proofs.RecordLaws.{step_entry, wait_entry, few_posts_lem}
use Rattle.replays.specs.Replay.{given_to, after_entry}
use Rattle.replays.proofs.inner.calls.make_call.Goals as goal

pub make_step-requires : goal.make_step-requires
make_step-requires c =
    (c.requires.0, c.requires.1, few_posts_lem c.args.r.now c.requires.2 c.if-r-eq-STEP.true)

pub returns-then-r-eq-STEP : goal.returns-then-r-eq-STEP
returns-then-r-eq-STEP c =
    let t = c.args.t.now in
    let s = c.args.s.now in
    let e = sym (step_entry c.args.r.now c.if-r-eq-STEP.true) in
    (c.make_step.ensures.0 ∙ ap (given_to t s) e, c.make_step.ensures.1 ∙ ap (after_entry t s) e)

pub returns : goal.returns
returns c =
    let t = c.args.t.now in
    let s = c.args.s.now in
    let e = sym (wait_entry c.args.r.now c.if-r-eq-STEP.false) in
    (c.make_wait.ensures.0 ∙ ap (given_to t s) e, c.make_wait.ensures.1 ∙ ap (after_entry t s) e)
