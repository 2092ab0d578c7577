use native.Mathlib.Omega.{arith}
use Rattle.program_graph.proofs.WordLaws.{times_length}
use Rattle.program_graph.proofs.LeaveLaws.{few_clocks}
use Rattle.program_graph.proofs.inner.waits.wait_fits.Goals as goal

pub clocks_fit-requires : goal.clocks_fit-requires
clocks_fit-requires c =
    omega (arith, few_clocks c.args.t.now c.args.r.now c.requires.0 c.requires.1, times_length c.args.r.now c.requires.1.words)

pub returns : goal.returns
returns c = c.clocks_fit.ensures
