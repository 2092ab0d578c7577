use Rattle.grammar.specs.Inner.{held_of}
use borrow.Author.Tests.{lt-ltb, le-ltb}
use Rattle.grammar.proofs.inner.evaluation.truth.Goals as goal

pub returns-then-payload-lt2 : goal.returns-then-payload-lt2
returns-then-payload-lt2 c = rw (lt-ltb _ _ c.if-payload-lt2.true) c.boolean.ensures

pub returns : goal.returns
unfolding held_of
returns c = rw (le-ltb _ _ c.if-payload-lt2.false)
