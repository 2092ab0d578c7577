use Prim.Native.Nat.{ℕ}
use mathlib.Core.Path.{ap, ◌∙◌}
use native.Mathlib.Omega.{arith}
use Rattle.laws.specs.Below.{all_below}
use Rattle.graph_tables.specs.RunWords.{vars_in}
use Rattle.program_graph.specs.Fits.{var_words_fit}
use Rattle.program_graph.proofs.WordLaws.{vars_length}
use Rattle.program_graph.proofs.inner.fits.all_vars_fit.Goals as goal

pub vars_words_fit-requires : goal.vars_words_fit-requires
vars_words_fit-requires c =
    (c.requires.0, vars_length c.args.r.now c.requires.1, omega (arith, c.variable_count.ensures, c.requires.0.counts.variables))

pub returns : goal.returns
returns c =
    c.vars_words_fit.ensures
    ∙ ap (λ (k : ℕ). all_below k (var_words_fit c.args.t.now (vars_in c.args.r.now))) c.variable_count.ensures
