use Rattle.std.specs.Prelude.{Err}
use mathlib.Core.Path.{refl, sym, ap, ◌∙◌}
use Rattle.std.proofs.lemmas.Result.{err_from_is_err_and}
use Rattle.channel_system.proofs.StepLaws.{speaks_channel, received_some}
use Rattle.channel_system.proofs.inner.steps.communicate.Goals as goal

pub channel_answer-requires : goal.channel_answer-requires
channel_answer-requires c =
    let f = c.requires.0 in
    (f.table, f.state, speaks_channel f c.requires.1)

pub returns-in_err-channel_answer : goal.returns-in_err-channel_answer
returns-in_err-channel_answer c =
    let p = err_from_is_err_and c.from_residual.result c.from_residual.ensures.1 in
    rw (sym c.channel_answer.ensures ∙ c.in_err-channel_answer.was) (p.1 ∙ ap Err p.2, refl)

pub message_step-requires : goal.message_step-requires
message_step-requires c =
    (c.requires.0, c.requires.1, λ e. received_some _ (rw e at (sym c.channel_answer.ensures ∙ c.in_ok-channel_answer.was)))

pub returns : goal.returns
returns c = rw (sym c.channel_answer.ensures ∙ c.in_ok-channel_answer.was) c.message_step.ensures
