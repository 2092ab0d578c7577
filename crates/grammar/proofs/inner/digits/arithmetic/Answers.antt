use native.Mathlib.Omega.{arith}
use Rattle.grammar.specs.declared.values.«Type».TheVariants.{Integer}
use Rattle.grammar.proofs.DigitLaws.{both_fit, both_unfit}
use Rattle.grammar.proofs.inner.digits.arithmetic.Goals as goal

pub returns-then-waiting-ne10 : goal.returns-then-waiting-ne10
returns-then-waiting-ne10 c ks e = both_unfit Integer Integer ks _ e c.if-waiting-ne10.true

pub returns : goal.returns
returns c ks e = both_fit Integer Integer ks _ _ e (omega arith) (omega arith)
