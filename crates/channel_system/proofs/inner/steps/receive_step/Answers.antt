use Rattle.std.specs.Prelude.{Ok, Err}
use mathlib.Core.Path.{sym, ap, ◌∙◌}
use Rattle.std.proofs.lemmas.Result.{err_from_is_err_and}
use Rattle.channel_system.specs.Steps.{receive_step}
use Rattle.channel_system.proofs.StepLaws.{ran_back, ran_on_lem, told_refused}
use Rattle.channel_system.proofs.StepLaws.{told_accepted, speaks_channel, counted_still, stored_still}
use Rattle.channel_system.proofs.TransferLaws.{message_stored}
use Rattle.channel_system.proofs.inner.steps.receive_step.Goals as goal

pub oldest_in-message-requires : goal.oldest_in-message-requires
oldest_in-message-requires c =
    let f = c.requires.0 in
    let l = speaks_channel f c.requires.1 in
    (f.table, f.state, l, message_stored f.table f.state c.args.q l c.requires.2)

pub returns-in_err-receive : goal.returns-in_err-receive
unfolding receive_step
returns-in_err-receive c =
    let p = err_from_is_err_and c.from_residual.result c.from_residual.ensures.1 in
    told_refused c.args.g c.args.s.now _ _ (rw c.oldest_in-message.ensures at (sym c.receive.ensures.0 ∙ c.in_err-receive.was))
    (p.1 ∙ ap Err p.2)
    (ran_back c.receive.ensures.1 c.in_err-receive.was)

pub take_from-requires : goal.take_from-requires
take_from-requires c =
    let f = c.requires.0 in
    let l = speaks_channel f c.requires.1 in (
      f.table,
      l,
      c.receive.ensures.1.words,
      counted_still f l c.receive.ensures.1,
      stored_still f l c.receive.ensures.1
          c.requires.2,
    )

pub returns : goal.returns
unfolding receive_step
returns c =
    let u = ran_on_lem c.receive.ensures.1 c.in_ok-receive.was in
    told_accepted c.args.g c.args.s.now _ _ (rw c.oldest_in-message.ensures at (sym c.receive.ensures.0 ∙ c.in_ok-receive.was))
    (ap Ok (rw c.oldest_in-message.ensures at c.event.ensures))
    (c.take_from.ensures ∙ rw (u, c.oldest_in-message.ensures))
