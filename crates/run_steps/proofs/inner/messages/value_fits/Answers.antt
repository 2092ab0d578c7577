use native.Mathlib.Omega.{arith}
use Rattle.run_steps.specs.Messages.{value_fits}
use Rattle.run_steps.proofs.inner.messages.value_fits.Goals as goal

pub bounds-values-e : goal.bounds-values-e
bounds-values-e c = omega (arith, ((c.requires.0.action _ c.requires.1).receive c.requires.2).few)

pub effect_var-requires : goal.effect_var-requires
effect_var-requires c =
    (c.requires.0.words, omega (arith, c.requires.0.counts.actions), omega (arith, (c.requires.0.action _ c.requires.1).few))

pub kind_at-requires : goal.kind_at-requires
kind_at-requires c =
    (c.requires.0.words, omega (arith, c.requires.0.counts.variables, ((c.requires.0.action _ c.requires.1).receive c.requires.2).var _ c.requires.3))

pub returns : goal.returns
unfolding value_fits
returns c =
    rw (c.kind_at.ensures, c.effect_var.ensures, c.word.ensures, c.kind.ensures)
