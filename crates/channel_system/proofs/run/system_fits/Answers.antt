use Rattle.laws.proofs.BelowLaws.{and_yes, and_no}
use Rattle.laws.proofs.Tests.{held, failed}
use Rattle.system_tables.proofs.SoundLaws.{system_sound}
use Rattle.channel_system.specs.Steps.{system_fits}
use Rattle.channel_system.proofs.run.system_fits.Goals as goal

pub returns-then-not-system_formed : goal.returns-then-not-system_formed
unfolding system_fits
returns-then-not-system_formed c = and_no _ (failed c.system_formed.ensures c.if-not-system_formed.true)

pub state_fits-requires : goal.state_fits-requires
state_fits-requires c = system_sound _ _ (held c.system_formed.ensures c.if-not-system_formed.false)

pub returns : goal.returns
unfolding system_fits
returns c =
    and_yes (held c.system_formed.ensures c.if-not-system_formed.false) c.state_fits.ensures
