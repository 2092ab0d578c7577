use borrow.Author.Tests.{le-leb, lt-leb}
use Rattle.laws.proofs.BelowLaws.{and_yes, and_no}
use Rattle.recordings.specs.Records.{good_step}
use Rattle.recordings.proofs.inner.records.good_step.Goals as goal

pub returns-then-n-gt-POSTS : goal.returns-then-n-gt-POSTS
unfolding good_step
returns-then-n-gt-POSTS c = and_no _ (lt-leb _ _ c.if-n-gt-POSTS.true)

pub returns : goal.returns
unfolding good_step
returns c = and_yes (le-leb _ _ c.if-n-gt-POSTS.false) c.zeros.ensures
