use Prim.Native.Nat.{ℕ}
use mathlib.Core.Path.{ap, ◌∙◌}
use native.Mathlib.Omega.{arith}
use Rattle.laws.specs.Below.{all_below}
use Rattle.graph_tables.specs.RunWords.{places_in}
use Rattle.program_graph.specs.Running.{place_known}
use Rattle.program_graph.proofs.WordLaws.{places_length}
use Rattle.program_graph.proofs.inner.fits.all_places_known.Goals as goal

pub words_known-requires : goal.words_known-requires
words_known-requires c =
    (c.requires.0, omega (arith, c.process_count.ensures, c.requires.0.counts.processes, places_length c.args.r.now c.requires.1))

pub returns : goal.returns
returns c =
    c.words_known.ensures
    ∙ ap (λ (k : ℕ). all_below k (place_known c.args.t.now (places_in c.args.r.now))) c.process_count.ensures
