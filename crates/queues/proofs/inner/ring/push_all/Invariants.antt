use Rattle.std.proofs.Common.{◌≡◌}
use Rattle.queues.specs.Queues.{Counted, pushed_below, FitBelow}
use Rattle.queues.proofs.inner.ring.push_all.Given as goal

abbrev pub invariant-loop-slot : goal.invariant-loop-slot
invariant-loop-slot l =
    Counted l.q × (l.q ≡ pushed_below l.initial.q l.fn.message.values l.slot-index) × FitBelow l.fn.message.values l.slot-index
