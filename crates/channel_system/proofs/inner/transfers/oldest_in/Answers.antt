use mathlib.Core.Path.{◌∙◌}
use Rattle.channel_system.proofs.TransferLaws.{queue_counted}
use Rattle.channel_system.proofs.inner.transfers.oldest_in.Goals as goal

pub first_values-requires : goal.first_values-requires
first_values-requires c =
    rw (c.queue_at.ensures, c.width_of.ensures)
    (queue_counted c.requires.0 c.requires.1 c.args.q c.requires.2, (c.requires.0.channel c.args.q c.requires.2).width, c.requires.3)

pub returns : goal.returns
returns c = c.first_values.ensures ∙ rw (c.queue_at.ensures, c.width_of.ensures)
