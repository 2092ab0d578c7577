use mathlib.Core.Path.{sym, ◌∙◌}
use native.Mathlib.Omega.{arith}
use Rattle.grammar.proofs.HeldLaws.{nothing, held_integer}
use Rattle.grammar.proofs.WholeLaws.{too_low, too_high, in_between}
use Rattle.grammar.proofs.inner.evaluation.within.Goals as goal

pub returns-then-s-lt2147483648 : goal.returns-then-s-lt2147483648
returns-then-s-lt2147483648 c = nothing ∙ sym (too_low _ c.if-s-lt2147483648.true)

pub returns-then-s-ge6442450944 : goal.returns-then-s-ge6442450944
returns-then-s-ge6442450944 c = nothing ∙ sym (too_high _ c.if-s-ge6442450944.true)

pub returns : goal.returns
returns c = held_integer _ (omega arith) ∙ sym (in_between _ c.if-s-lt2147483648.false c.if-s-ge6442450944.false)
