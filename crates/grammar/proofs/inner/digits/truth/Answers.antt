use borrow.Author.Tests.{eq-eqb, ne_eqb}
use mathlib.Core.Path.{refl}
use Rattle.laws.proofs.BelowLaws.{and_yes, and_no}
use Rattle.grammar.proofs.inner.digits.truth.Goals as goal

pub returns-then-w-ne-TRUTH : goal.returns-then-w-ne-TRUTH
returns-then-w-ne-TRUTH c = and_no _ (ne_eqb _ _ c.if-w-ne-TRUTH.true)

pub returns : goal.returns
returns c = and_yes (eq-eqb _ _ c.if-w-ne-TRUTH.false) refl
