use native.Mathlib.Omega.{arith}
use Rattle.grammar.specs.declared.values.«Type».TheVariants.{Integer}
use Rattle.grammar.proofs.DigitLaws.{one_fits, one_unfit}
use Rattle.grammar.proofs.inner.digits.negate.Goals as goal

pub returns-then-waiting-ne2 : goal.returns-then-waiting-ne2
returns-then-waiting-ne2 c ks e = one_unfit Integer ks _ e c.if-waiting-ne2.true

pub returns : goal.returns
returns c ks e = one_fits Integer ks _ e (omega arith)
