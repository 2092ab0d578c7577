use Rattle.laws.proofs.BelowLaws.{and_yes, and_no}
use Rattle.laws.proofs.Tests.{held, failed}
use Rattle.run_steps.specs.Waiting.{due_of}
use Rattle.run_steps.proofs.inner.waiting.is_due.Goals as goal

pub returns-then-not-any_unmet : goal.returns-then-not-any_unmet
unfolding due_of
returns-then-not-any_unmet c = and_no _ (failed c.any_unmet.ensures c.if-not-any_unmet.true)

pub returns : goal.returns
unfolding due_of
returns c = and_yes (held c.any_unmet.ensures c.if-not-any_unmet.false) c.none_passed.ensures
