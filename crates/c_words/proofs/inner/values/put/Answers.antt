use mathlib.Core.Path.{sym}
use Rattle.c_words.proofs.SliceLaws.{write_past}
use Rattle.c_words.proofs.inner.values.put.Goals as goal

pub returns-else-i-out : goal.returns-else-i-out
returns-else-i-out c = sym (write_past _ _ _ c.if-i-out.false)
