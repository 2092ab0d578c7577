use mathlib.Core.Path.{sym}
use Rattle.c_words.proofs.SliceLaws.{read_past}
use Rattle.c_words.proofs.inner.values.number_at.Goals as goal

pub returns-then-ns-i : goal.returns-then-ns-i
returns-then-ns-i c = sym (read_past c.args.ns.now c.args.i c.if-ns-i.true)
