use native.Mathlib.Omega.{arith}
use Rattle.system_state.specs.Fits.{queue_fits_at}
use Rattle.system_state.proofs.SoundLaws.{queue_words_lem}
use Rattle.system_state.proofs.inner.fits.queue_fits.Goals as goal

pub kinds_at-requires : goal.kinds_at-requires
kinds_at-requires c =
    (c.requires.0.words, omega (arith, c.requires.2, c.requires.0.channels), (c.requires.0.channel c.args.q c.requires.2).width)

pub queue_fits-requires : goal.queue_fits-requires
queue_fits-requires c =
    rw c.queue_at.ensures
    (queue_words_lem c.args.s.now c.requires.1 c.args.q (omega (arith, c.requires.2, c.requires.0.channels)))

pub returns : goal.returns
unfolding queue_fits_at
returns c =
    rw (c.queue_at.ensures, c.kinds_at.ensures, c.ceiling_at-ceiling.ensures) at c.queue_fits.ensures
