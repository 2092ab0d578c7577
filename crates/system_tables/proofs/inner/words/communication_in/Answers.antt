use borrow.Author.Tests.{eq-eqb, ne_eqb}
use Rattle.system_tables.proofs.inner.words.communication_in.Goals as goal

pub returns-then-w-eq-NO_COMMUNICATION : goal.returns-then-w-eq-NO_COMMUNICATION
returns-then-w-eq-NO_COMMUNICATION c = rw (eq-eqb _ _ c.if-w-eq-NO_COMMUNICATION.true)

pub returns : goal.returns
returns c =
    rw (ne_eqb _ _ c.if-w-eq-NO_COMMUNICATION.false, c.message_of-m.ensures, c.message_part.ensures, c.channel_part-q.ensures)
