use native.Mathlib.Omega.{arith}
use borrow.Author.Tests.{le-leb, lt-leb}
use Rattle.laws.proofs.BelowLaws.{and_yes, and_no}
use Rattle.channel_system.specs.Waits.{all_fit}
use Rattle.channel_system.proofs.inner.waits.all_fit.Goals as goal

pub overflow_add-time_of : goal.overflow_add-time_of
overflow_add-time_of c =
    omega (arith, c.time_of.ensures, c.requires.1.time)

pub returns-then-time_of-delta : goal.returns-then-time_of-delta
unfolding all_fit
returns-then-time_of-delta c = and_no _ (lt-leb _ _ (rw c.time_of.ensures at c.if-time_of-delta.true))

pub returns : goal.returns
unfolding all_fit
returns c =
    and_yes (le-leb _ _ (rw c.time_of.ensures at c.if-time_of-delta.false)) c.all_clocks_fit.ensures
