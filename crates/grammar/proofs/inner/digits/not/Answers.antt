use native.Mathlib.Omega.{arith}
use Rattle.grammar.specs.declared.values.«Type».TheVariants.{Boolean}
use Rattle.grammar.proofs.DigitLaws.{one_fits, one_unfit}
use Rattle.grammar.proofs.inner.digits.not.Goals as goal

pub returns-then-waiting-ne1 : goal.returns-then-waiting-ne1
returns-then-waiting-ne1 c ks e = one_unfit Boolean ks _ e c.if-waiting-ne1.true

pub returns : goal.returns
returns c ks e = one_fits Boolean ks _ e (omega arith)
