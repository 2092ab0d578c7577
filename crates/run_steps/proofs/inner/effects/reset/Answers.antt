use mathlib.Core.Path.{refl, ap, ◌∙◌}
use native.Mathlib.Omega.{arith}
use native.Mathlib.Numerals.{add-one}
use lib.ListN.{length-set}
use borrow.Author.Rules.{rules}
use Rattle.run_steps.specs.Steps.{reset_below}
use Rattle.run_steps.proofs.inner.effects.reset.Goals as goal

pub reset_count-i-end-requires : goal.reset_count-i-end-requires
reset_count-i-end-requires c = (c.requires.0.words, omega (arith, c.requires.0.counts.actions))

pub loop-i-init : goal.loop-i-init
unfolding reset_below
loop-i-init c = (search rules, refl, refl)

pub reset_at-requires : goal.reset_at-requires
reset_at-requires c =
    (c.requires.0.words, omega (arith, c.requires.0.counts.actions), omega (arith, (c.requires.0.action _ c.requires.1).resets.few))

pub bounds-clocks-reset_at : goal.bounds-clocks-reset_at
bounds-clocks-reset_at c =
    omega (arith, c.reset_at.ensures, (c.requires.0.action _ c.requires.1).resets.clock c.loop-i.i (omega arith))

pub loop-i-preserved : goal.loop-i-preserved
unfolding reset_below
loop-i-preserved c = (omega arith, simp length-set c.loop-i.invariant.1, rw add-one (cc))

pub returns : goal.returns
returns c = c.loop-i.invariant.2 ∙ ap (reset_below _ _ _) (omega arith)
