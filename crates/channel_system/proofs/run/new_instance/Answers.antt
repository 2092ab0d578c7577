use mathlib.Core.Path.{refl}
use borrow.Author.Tests.{eq-eqb, ne_eqb}
use Rattle.laws.specs.Ladder.{unless}
use Rattle.laws.proofs.Tests.{held, failed}
use Rattle.system_tables.proofs.SoundLaws.{system_sound}
use Rattle.channel_system.specs.Instances.{new_instance_of}
use Rattle.channel_system.proofs.run.new_instance.Goals as goal

pub returns-then-not-system_formed : goal.returns-then-not-system_formed
unfolding new_instance_of unless
returns-then-not-system_formed c = rw (failed c.system_formed.ensures c.if-not-system_formed.true) (refl, refl)

pub returns-then-s-ne-WORDS : goal.returns-then-s-ne-WORDS
unfolding new_instance_of unless
returns-then-s-ne-WORDS c =
    rw (held c.system_formed.ensures c.if-not-system_formed.false, ne_eqb _ _ c.if-s-ne-WORDS.true) (refl, refl)

pub fresh_state-requires : goal.fresh_state-requires
fresh_state-requires c =
    (system_sound _ _ (held c.system_formed.ensures c.if-not-system_formed.false), c.if-s-ne-WORDS.false)

pub returns : goal.returns
unfolding new_instance_of unless
returns c =
    rw (held c.system_formed.ensures c.if-not-system_formed.false, eq-eqb _ _ c.if-s-ne-WORDS.false) (refl, c.fresh_state.ensures)
