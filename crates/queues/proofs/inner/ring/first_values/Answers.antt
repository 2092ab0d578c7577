use Rattle.std.proofs.Common.{◌≤◌, length, arith, rules}
use borrow.Author.Tests.{tests}
use Rattle.laws.proofs.Chains.{from_fn_at}
use Rattle.graph_tables.specs.Sizes.{message_room}
use Rattle.queues.specs.Queues.{queue_of}
use Rattle.queues.proofs.QueueLaws.{queue_length}
use Rattle.queues.proofs.MessageLaws.{slots_few, value_or_blank, filled_from}
use Rattle.queues.proofs.inner.ring.first_values.Goals as goal

pub returns : goal.returns
returns c =
    let values = queue_of c.args.q.now in
    let slots = c.slots_for-slots.result in
    let made = c.from_fn-values.ensures.items in
    let room : slots ≤ message_room = omega (arith, c.slots_for-slots.ensures, slots_few c.args.width c.requires.1) in
    let few : slots ≤ length values = omega (arith, c.slots_for-slots.ensures, queue_length c.args.q.now, c.requires.2) in
    let at = from_fn_at (value_or_blank values slots) c.from_fn-values.result (λ x b t k. search (rules, tests)) message_room made in
    rw (filled_from values slots few c.from_fn-values.result made.long room at, c.slots_for-slots.ensures)
