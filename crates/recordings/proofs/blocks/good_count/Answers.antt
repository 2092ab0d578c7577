use mathlib.Core.Path.{refl}
use Rattle.recordings.proofs.blocks.good_count.Goals as goal

pub returns-then-last : goal.returns-then-last
returns-then-last c = rw c.if-last.true refl

pub returns : goal.returns
returns c = rw c.if-last.false refl
