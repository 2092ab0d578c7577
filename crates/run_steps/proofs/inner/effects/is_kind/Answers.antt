use borrow.Author.Tests.{lt-ltb, le-ltb}
use Rattle.laws.proofs.BelowLaws.{and_yes, and_no}
use Rattle.run_steps.proofs.inner.effects.is_kind.Goals as goal

pub returns-then-action_count-a : goal.returns-then-action_count-a
returns-then-action_count-a c = and_no _ (le-ltb _ _ (rw c.action_count.ensures at c.if-action_count-a.true))

pub returns : goal.returns
returns c =
    and_yes (lt-ltb _ _ (rw c.action_count.ensures at c.if-action_count-a.false)) (rw c.action_kind.ensures)
