-- What is read from words is such as a program holds.
use Rattle.std.proofs.Common.{ℕ, ◌<◌, ◌≤◌, List, get_or, arith}
use Rattle.grammar.specs.Evaluation.{blank}
use Rattle.grammar.specs.Slots.{FitVal}
use Rattle.grammar.proofs.FitLaws.{words_fit}
use Rattle.queues.specs.Queues.{stored_of, queue_of, slots_for, first_of, FitMessage}
use Rattle.queues.proofs.QueueLaws.{queue_at}
use Rattle.queues.proofs.MessageLaws.{first_at}

-- every value of a queue, and the message that is received
pub queue_held : (q : List ℕ) (i : ℕ) → i < stored_of q → FitVal (get_or (queue_of q) i blank).value
queue_held q i l = rw (queue_at q i l) (words_fit _ _)

pub first_held : (q : List ℕ) (w : ℕ) → slots_for w ≤ stored_of q → FitMessage (first_of q w)
first_held q w h k l = rw (first_at q w h k l) (queue_held q k (omega arith))
