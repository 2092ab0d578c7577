use mathlib.Core.Path.{sym, ◌∙◌}
use Rattle.channel_system.proofs.SpokenLaws.{spoken_channel}
use Rattle.channel_system.proofs.inner.listing.listed_as.Goals as goal

pub channel_lists-requires : goal.channel_lists-requires
channel_lists-requires c = (
  c.requires.table,
  c.requires.state,
  spoken_channel c.args.t.now c.args.g c.args.a c.requires.table c.requires.known
      (sym c.spoken_by.ensures ∙ c.in-On.is),
)

pub returns-in-Plain : goal.returns-in-Plain
returns-in-Plain c = rw (sym c.spoken_by.ensures ∙ c.in-Plain.is)

pub returns-in-On : goal.returns-in-On
returns-in-On c =
    rw (sym c.spoken_by.ensures ∙ c.in-On.is) c.channel_lists.ensures
