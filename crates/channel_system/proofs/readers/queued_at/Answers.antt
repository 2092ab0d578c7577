use Rattle.grammar.specs.declared.values.Val.{Val}
use Rattle.std.specs.Prelude.{Ok, Some}
use borrow.Author.Tests.{lt-ltb, le-ltb}
use mathlib.Core.Path.{ap}
use Rattle.channel_system.proofs.readers.queued_at.Goals as goal

pub returns-then-stored-k : goal.returns-then-stored-k
returns-then-stored-k c = rw (le-ltb _ _ (rw c.stored.ensures at c.if-stored-k.true))

pub value_at-requires : goal.value_at-requires
value_at-requires c = (c.requires, rw c.stored.ensures at c.if-stored-k.false)

pub returns : goal.returns
returns c =
    rw (lt-ltb _ _ (rw c.stored.ensures at c.if-stored-k.false)) (ap (λ (v : Val). Ok (Some v)) c.value_at.ensures)
