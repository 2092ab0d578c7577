use Rattle.std.specs.Prelude.{Ok, Err}
use mathlib.Core.Path.{sym, ap, ◌∙◌}
use Rattle.std.proofs.lemmas.Result.{err_from_is_err_and}
use Rattle.program_graph.specs.Outcomes.{accepts, values_said}
use Rattle.channel_system.specs.Steps.{send_step}
use Rattle.channel_system.proofs.StepLaws.{ran_back, ran_on_lem, told_refused, told_accepted, speaks_channel, counted_still, few_values}
use Rattle.channel_system.proofs.inner.steps.send_step.Goals as goal

pub returns-in_err-message : goal.returns-in_err-message
unfolding send_step
returns-in_err-message c =
    let p = err_from_is_err_and c.from_residual.result c.from_residual.ensures.1 in
    told_refused c.args.g c.args.s.now _ _ (sym c.send.ensures.0 ∙ ap accepts c.in_err-message.was) (p.1 ∙ ap Err p.2)
    (ran_back c.send.ensures.2 (ap accepts c.in_err-message.was))

pub send_into-requires : goal.send_into-requires
send_into-requires c =
    let l = speaks_channel c.requires.0 c.requires.1 in (
      c.requires.0.table,
      l,
      c.send.ensures.2.words,
      counted_still c.requires.0 l c.send.ensures.2,
      few_values c.requires.0 c.requires.1 c.args.posts.now c.args.word (ap accepts c.in_ok-message.was) c.send.ensures.0
          (sym (ap values_said c.in_ok-message.was) ∙ c.send.ensures.1),
    )

pub returns : goal.returns
unfolding send_step
returns c =
    let message = sym (ap values_said c.in_ok-message.was) ∙ c.send.ensures.1 in
    let u = ran_on_lem c.send.ensures.2 (ap accepts c.in_ok-message.was) in
    told_accepted c.args.g c.args.s.now _ _ (sym c.send.ensures.0 ∙ ap accepts c.in_ok-message.was)
    (ap Ok (rw message at c.event.ensures))
    (c.send_into.ensures ∙ rw (u, message))
