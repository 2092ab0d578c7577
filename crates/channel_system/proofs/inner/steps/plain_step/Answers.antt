use Rattle.std.specs.Prelude.{Ok, Err}
use mathlib.Core.Path.{sym, ap, ◌∙◌}
use Rattle.std.proofs.lemmas.Result.{err_from_is_err_and}
use Rattle.channel_system.specs.Steps.{plain_step}
use Rattle.channel_system.proofs.StepLaws.{ran_back, ran_on_lem, told_refused, told_accepted}
use Rattle.channel_system.proofs.inner.steps.plain_step.Goals as goal

pub returns-in_err-step : goal.returns-in_err-step
unfolding plain_step
returns-in_err-step c =
    let p = err_from_is_err_and c.from_residual.result c.from_residual.ensures.1 in
    told_refused c.args.g c.args.s.now _ _ (sym c.step.ensures.0 ∙ c.in_err-step.was) (p.1 ∙ ap Err p.2)
    (ran_back c.step.ensures.1 c.in_err-step.was)

pub returns : goal.returns
unfolding plain_step
returns c =
    told_accepted c.args.g c.args.s.now _ _ (sym c.step.ensures.0 ∙ c.in_ok-step.was) (ap Ok c.silent.ensures)
    (ran_on_lem c.step.ensures.1 c.in_ok-step.was)
