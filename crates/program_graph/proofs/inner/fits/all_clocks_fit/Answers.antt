use Prim.Native.Nat.{ℕ}
use mathlib.Core.Path.{ap, ◌∙◌}
use native.Mathlib.Omega.{arith}
use Rattle.laws.specs.Below.{all_below}
use Rattle.graph_tables.specs.RunWords.{clocks_in}
use Rattle.run_steps.specs.Steps.{clock_fits}
use Rattle.program_graph.proofs.WordLaws.{times_length}
use Rattle.program_graph.proofs.inner.fits.all_clocks_fit.Goals as goal

pub clocks_fit-requires : goal.clocks_fit-requires
clocks_fit-requires c =
    omega (arith, c.clock_count.ensures, c.requires.0.counts.clocks, times_length c.args.r.now c.requires.1)

pub returns : goal.returns
returns c =
    c.clocks_fit.ensures ∙ ap (λ (k : ℕ). all_below k (clock_fits (clocks_in c.args.r.now) 0)) c.clock_count.ensures
