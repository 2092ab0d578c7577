use native.Mathlib.Omega.{arith}
use Rattle.system_state.specs.Fits.{run_fits}
use Rattle.system_state.proofs.SoundLaws.{run_words_lem}
use Rattle.system_state.proofs.inner.fits.run_fits.Goals as goal

pub run_words_fit-requires : goal.run_words_fit-requires
run_words_fit-requires c =
    let g = c.args.g in (
      rw c.graph_at.ensures (c.requires.0.graph g c.requires.2),
      rw c.run_at.ensures (run_words_lem c.args.s.now c.requires.1 g (omega (arith, c.requires.2, c.requires.0.graphs))),
    )

pub returns : goal.returns
unfolding run_fits
returns c = rw (c.graph_at.ensures, c.run_at.ensures) at c.run_words_fit.ensures
