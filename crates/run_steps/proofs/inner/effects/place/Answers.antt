use mathlib.Core.Path.{refl, ap, ◌∙◌}
use native.Mathlib.Omega.{arith}
use native.Mathlib.Numerals.{add-one}
use lib.ListN.{length-set}
use borrow.Author.Rules.{rules}
use Rattle.run_steps.specs.Steps.{placed_below}
use Rattle.run_steps.proofs.inner.effects.place.Goals as goal

pub loop-p-init : goal.loop-p-init
unfolding placed_below
loop-p-init c = (search rules, refl, refl)

pub loop-p-preserved : goal.loop-p-preserved
unfolding placed_below
loop-p-preserved c = (omega arith, simp length-set c.loop-p.invariant.1, rw add-one (cc))

pub returns : goal.returns
returns c = c.loop-p.invariant.2 ∙ ap (placed_below _ _) (omega arith)
