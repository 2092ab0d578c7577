use mathlib.Core.Path.{sym}
use Rattle.c_words.proofs.SliceLaws.{read_past}
use Rattle.c_words.proofs.inner.values.word_at.Goals as goal

pub returns-then-ws-i : goal.returns-then-ws-i
returns-then-ws-i c = sym (read_past c.args.ws.now c.args.i c.if-ws-i.true)
