use mathlib.Core.Path.{refl, ap, ◌∙◌}
use native.Mathlib.Omega.{arith}
use native.Mathlib.Numerals.{add-one}
use borrow.Author.Rules.{rules}
use Rattle.program_graph.specs.Running.{start_vars}
use Rattle.program_graph.proofs.inner.fresh.start_vars.Goals as goal

pub loop-v-init : goal.loop-v-init
unfolding start_vars
loop-v-init c = (search rules, refl)

pub bounds-vars-v : goal.bounds-vars-v
bounds-vars-v c = omega (arith, c.requires.0.counts.variables)

pub loop-v-preserved : goal.loop-v-preserved
unfolding start_vars
loop-v-preserved c = (omega arith, rw add-one (cc))

pub returns : goal.returns
returns c = c.loop-v.invariant.1 ∙ ap (start_vars _) (omega arith)
