use mathlib.Core.Path.{ap, ◌∙◌}
use borrow.Author.Tests.{lt-ltb, le-ltb}
use Rattle.recordings.specs.Records.{good_record}
use Rattle.recordings.specs.Numbers.{zeros_at}
use Rattle.recordings.specs.Blocks.{good_slot}
use Rattle.recordings.proofs.blocks.good_slot.Goals as goal

pub returns-then-i-b : goal.returns-then-i-b
unfolding good_slot
returns-then-i-b c =
    rw (lt-ltb _ _ c.if-i-b.true) (c.good_record.ensures ∙ ap good_record c.record_at-r.ensures.0)

pub returns : goal.returns
unfolding good_slot
returns c =
    rw (le-ltb _ _ c.if-i-b.false) (c.zeros.ensures ∙ ap (λ x. zeros_at x 0 32) c.record_at-r.ensures.0)
