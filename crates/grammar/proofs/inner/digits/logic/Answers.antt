use native.Mathlib.Omega.{arith}
use Rattle.grammar.specs.declared.values.«Type».TheVariants.{Boolean}
use Rattle.grammar.proofs.DigitLaws.{both_fit, both_unfit}
use Rattle.grammar.proofs.inner.digits.logic.Goals as goal

pub returns-then-waiting-ne5 : goal.returns-then-waiting-ne5
returns-then-waiting-ne5 c ks e = both_unfit Boolean Boolean ks _ e c.if-waiting-ne5.true

pub returns : goal.returns
returns c ks e = both_fit Boolean Boolean ks _ _ e (omega arith) (omega arith)
