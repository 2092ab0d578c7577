use Rattle.program_graph.specs.Running.{var_fits}
use Rattle.program_graph.proofs.inner.fits.var_fits.Goals as goal

pub returns : goal.returns
unfolding var_fits
returns c = rw (c.kind_at.ensures, c.word.ensures, c.kind.ensures)
