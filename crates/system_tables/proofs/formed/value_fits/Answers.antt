use Rattle.system_tables.specs.Formed.{value_fits}
use Rattle.system_tables.proofs.formed.value_fits.Goals as goal

pub returns : goal.returns
unfolding value_fits
returns c = rw (c.value_kind.ensures, c.channel_kind.ensures)

pub value_kind-requires : goal.value_kind-requires
value_kind-requires c = let p = c.requires in (p.0.0, p.0.1, p.4)
