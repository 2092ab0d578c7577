use mathlib.Core.Path.{◌≡◌, refl, ap, ◌∙◌}
use native.Mathlib.Omega.{arith}
use native.Mathlib.Numerals.{add-one}
use lib.ListN.{get_or, length-set}
use borrow.Author.Rules.{rules}
use Rattle.run_steps.specs.Steps.{shifted_below}
use Rattle.run_steps.proofs.StepLaws.{fits_at, unmoved}
use Rattle.run_steps.proofs.inner.waits.shift.Goals as goal
use Rattle.run_steps.proofs.inner.waits.shift.Goals.{In-loop-i}

pub loop-i-init : goal.loop-i-init
unfolding shifted_below
loop-i-init c = (search rules, refl, refl)

-- the clock that is read
old : (c : In-loop-i)
    → get_or c.loop-i.clocks c.loop-i.i 0 ≡ get_or c.args.clocks.now c.loop-i.i 0
old c = rw c.loop-i.invariant.2 (unmoved _ _ c.loop-i.i c.loop-i.i (omega arith))

pub overflow_add-clocks : goal.overflow_add-clocks
overflow_add-clocks c = omega (arith, old (goal.at.overflow_add-clocks c).In-loop-i, fits_at _ _ _ c.loop-i.i c.requires.1 (omega arith))

pub loop-i-preserved : goal.loop-i-preserved
unfolding shifted_below
loop-i-preserved c =
    (omega arith, simp length-set c.loop-i.invariant.1, rw add-one (cc (old (goal.at.loop-i-preserved c).In-loop-i)))

pub returns : goal.returns
returns c = c.loop-i.invariant.2 ∙ ap (shifted_below _ _) (omega arith)
