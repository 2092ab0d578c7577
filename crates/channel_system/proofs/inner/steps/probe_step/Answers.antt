use Rattle.std.specs.Prelude.{Ok, Err}
use mathlib.Core.Path.{sym, ap, ◌∙◌}
use Rattle.std.proofs.lemmas.Result.{err_from_is_err_and}
use Rattle.program_graph.specs.Outcomes.{accepts}
use Rattle.channel_system.specs.Steps.{probe_step}
use Rattle.channel_system.proofs.StepLaws.{ran_back, ran_on_lem, told_refused, told_accepted}
use Rattle.channel_system.proofs.inner.steps.probe_step.Goals as goal

pub returns-in_err-send : goal.returns-in_err-send
unfolding probe_step
returns-in_err-send c =
    let p = err_from_is_err_and c.from_residual.result c.from_residual.ensures.1 in
    told_refused c.args.g c.args.s.now _ _ (sym c.send.ensures.0 ∙ ap accepts c.in_err-send.was) (p.1 ∙ ap Err p.2)
    (ran_back c.send.ensures.2 (ap accepts c.in_err-send.was))

pub returns : goal.returns
unfolding probe_step
returns c =
    told_accepted c.args.g c.args.s.now _ _ (sym c.send.ensures.0 ∙ ap accepts c.in_ok-send.was)
    (ap Ok (rw c.no_message.ensures at c.event.ensures))
    (ran_on_lem c.send.ensures.2 (ap accepts c.in_ok-send.was))
