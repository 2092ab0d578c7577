use Rattle.std.proofs.Common.{sym, ap, ◌∙◌}
use Rattle.grammar.specs.declared.values.Slot.{Slot}
use Rattle.queues.proofs.QueueLaws.{queue_at}
use Rattle.queues.proofs.inner.ring.value_at.Goals as goal

pub returns : goal.returns
returns c =
    let e = queue_at _ _ c.requires.1 in
    c.value_of.ensures ∙ rw (c.words_at-kind.ensures.0, c.words_at-kind.ensures.1) (ap (λ (v : Slot). v.value) (sym e))
