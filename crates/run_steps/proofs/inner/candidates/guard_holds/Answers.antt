use borrow.Author.Tests.{eq-eqb, ne_eqb}
use mathlib.Core.Path.{sym, ◌∙◌}
use native.Mathlib.Omega.{arith}
use Rattle.run_steps.specs.Steps.{guard_holds}
use Rattle.run_steps.proofs.inner.candidates.guard_holds.Goals as goal

pub returns-then-guard_length-eq0 : goal.returns-then-guard_length-eq0
unfolding guard_holds
returns-then-guard_length-eq0 c = rw (eq-eqb _ _ (sym c.guard_length.ensures ∙ c.if-guard_length-eq0.true))

pub guard_items-requires : goal.guard_items-requires
guard_items-requires c =
    (c.requires.0.words, omega (arith, c.requires.0.counts.transitions), (c.requires.0.transition _ c.requires.1).guard.short)

pub returns : goal.returns
unfolding guard_holds
returns c =
    c.is_satisfied.ensures ∙ rw (c.guard_items.ensures, ne_eqb _ _ (λ z. c.if-guard_length-eq0.false (c.guard_length.ensures ∙ z)))
