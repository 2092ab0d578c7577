use native.Mathlib.Omega.{arith}
use Rattle.system_state.proofs.inner.fits.ceiling_at.Goals as goal

pub capacity_of-capacity-requires : goal.capacity_of-capacity-requires
capacity_of-capacity-requires c =
    (c.requires.0.words, omega (arith, c.requires.1, c.requires.0.channels), (c.requires.0.channel c.args.q c.requires.1).bound)

pub ceiling_of-requires : goal.ceiling_of-requires
ceiling_of-requires c =
    omega (arith, c.width_of-width.ensures, (c.requires.0.channel c.args.q c.requires.1).width)

pub returns : goal.returns
returns c = rw (c.width_of-width.ensures, c.capacity_of-capacity.ensures) at c.ceiling_of.ensures
