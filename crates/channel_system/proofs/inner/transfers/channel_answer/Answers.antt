use mathlib.Core.Path.{◌≡◌, ap, ◌∙◌}
use native.Mathlib.Omega.{arith}
use Rattle.queues.specs.Queues.{stored_of}
use Rattle.system_state.specs.Words.{queue_part}
use Rattle.channel_system.proofs.TransferLaws.{queue_counted}
use Rattle.channel_system.proofs.inner.transfers.channel_answer.Goals as goal

pub stored-stored-requires : goal.stored-stored-requires
stored-stored-requires c =
    rw c.queue_at.ensures (queue_counted c.requires.0 c.requires.1 c.args.q c.requires.2)

pub capacity_of-capacity-requires : goal.capacity_of-capacity-requires
capacity_of-capacity-requires c =
    (c.requires.0.words, omega (arith, c.requires.2, c.requires.0.channels), (c.requires.0.channel c.args.q c.requires.2).bound)

pub step_test-requires : goal.step_test-requires
step_test-requires c =
    let e : c.stored-stored.result ≡ stored_of (queue_part c.args.s.now c.args.q) = c.stored-stored.ensures
    ∙ ap stored_of c.queue_at.ensures in (
      omega (arith, e, (c.requires.1.queue c.args.q c.requires.2).formed.few),
      omega
          (arith, c.width_of-width.ensures, (c.requires.0.channel c.args.q c.requires.2).width),
    )

pub returns : goal.returns
returns c =
    let e : c.stored-stored.result ≡ stored_of (queue_part c.args.s.now c.args.q) = c.stored-stored.ensures
    ∙ ap stored_of c.queue_at.ensures in
    c.step_test.ensures ∙ rw (e, c.width_of-width.ensures, c.capacity_of-capacity.ensures)
