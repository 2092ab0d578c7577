-- Calls on a system one after the other, whatever they answer: the state after them, the values that went through a channel, and the
-- time since a clock was reset.
use Rattle.std.specs.Prelude.{ℕ, ◌+◌, ◌≡◌, Bool, true, false, cond, List, [], ◌∷◌, ◌++◌, eqb}
use Rattle.laws.specs.Below.{◌and◌}
use Rattle.grammar.specs.declared.values.Slot.{Slot}
use Rattle.graph_tables.specs.Answers.{answer_number}
use Rattle.program_graph.specs.RunChains.{resets_clock}
use Rattle.queues.specs.Queues.{values_of}
use Rattle.system_tables.specs.declared.ids.Message.{Message}
use Rattle.system_tables.specs.declared.ids.Message.TheVariants.{Send, Receive}
use Rattle.system_tables.specs.declared.ids.Communication.{Communication}
use Rattle.system_tables.specs.declared.ids.Communication.TheVariants.{Plain, On}
use Rattle.system_tables.specs.Words.{graph_part, message_word}
use Rattle.channel_system.specs.Steps.{spoken_by, transition_of}
use Rattle.channel_system.specs.Waits.{wait_of, can_wait_of, is_waiting_of}
use Rattle.channel_system.specs.Listing.{possible_of, possible_on, nosync_on}
use Rattle.channel_system.specs.Readers.{now_of, length_of, queued_of, graph_run_of}
use Rattle.channel_system.specs.Told.{waited_number}

-- a call that only reads, with what is handed to it: a delta, a graph, a channel, an entry
pub data Reading : Type 0 where
  can_wait : ℕ → Reading
  is_waiting : Reading
  possible_transitions : ℕ → Reading
  possible_transitions_pg : ℕ → ℕ → Reading
  nosync_possible_transitions_pg : ℕ → ℕ → Reading
  time : Reading
  program_graph : ℕ → Reading
  queue_length : ℕ → Reading
  queue_value : ℕ → ℕ → Reading

-- a call: a step, of a graph by an action of a graph to posts with a word; a wait; or one that only reads
pub data Call : Type 0 where
  transition : ℕ → ℕ → ℕ → List ℕ → ℕ → Call
  wait : ℕ → Call
  read : Reading → Call

-- what a call answers
abbrev pub reading_number : List ℕ → List ℕ → Reading → ℕ
reading_number t s (can_wait delta) = answer_number (can_wait_of t s delta)
reading_number t s is_waiting = answer_number (is_waiting_of t s)
reading_number t s (possible_transitions k) = answer_number (possible_of t s k)
reading_number t s (possible_transitions_pg g k) = answer_number (possible_on t s g k)
reading_number t s (nosync_possible_transitions_pg g k) = answer_number (nosync_on t s g k)
reading_number t s time = answer_number (now_of t s)
reading_number t s (program_graph g) = answer_number (graph_run_of t s g).answer
reading_number t s (queue_length q) = answer_number (length_of t s q)
reading_number t s (queue_value q k) = answer_number (queued_of t s q k)

abbrev pub answer_to : List ℕ → List ℕ → Call → ℕ
answer_to t s (transition g o a posts word) = answer_number (transition_of t s g o a posts word).told.answer
answer_to t s (wait delta) = waited_number (wait_of t s delta).answer
answer_to t s (read r) = reading_number t s r

abbrev pub is_accepted : ℕ → Bool
is_accepted n = eqb n 0

-- ---- the state after a call: only a step and a wait write
abbrev pub state_after : List ℕ → List ℕ → Call → List ℕ
state_after t s (transition g o a posts word) = (transition_of t s g o a posts word).state
state_after t s (wait delta) = (wait_of t s delta).state
state_after t s (read r) = s

-- after a chain of calls
abbrev pub state_after_all : List ℕ → List ℕ → List Call → List ℕ
state_after_all t s [] = s
state_after_all t s (call ∷ calls) = state_after_all t (state_after t s call) calls

-- ---- the values of events
-- those of an event, if it is of this kind of message on channel q
abbrev pub values_on : Message → ℕ → Communication → List Slot → List Slot
values_on m q Plain values = []
values_on m q (On n p) values = cond (eqb (message_word n) (message_word m) and eqb p.0 q) values []

-- those of the event that a call returns: of one that is refused there is none
abbrev pub values_by : Message → ℕ → List ℕ → List ℕ → Call → List Slot
values_by m q t s (transition g o a posts word) =
    values_on m q (transition_of t s g o a posts word).told.event.on (values_of (transition_of t s g o a posts word).told.event.values)
values_by m q t s (wait delta) = []
values_by m q t s (read r) = []

-- those of the events of a chain of calls, in order
abbrev pub values_by_all : Message → ℕ → List ℕ → List ℕ → List Call → List Slot
values_by_all m q t s [] = []
values_by_all m q t s (call ∷ calls) = values_by m q t s call ++ values_by_all m q t (state_after t s call) calls

-- what was sent into channel q, and what was received from it
abbrev pub sent_over : ℕ → List ℕ → List ℕ → List Call → List Slot
sent_over q t s calls = values_by_all Send q t s calls

abbrev pub received_over : ℕ → List ℕ → List ℕ → List Call → List Slot
received_over q t s calls = values_by_all Receive q t s calls

-- ---- time
-- the time that a call takes
abbrev pub delta_of : Call → ℕ
delta_of (transition g o a posts word) = 0
delta_of (wait delta) = delta
delta_of (read r) = 0

-- the sum of the accepted waits of a chain
abbrev pub accepted_waits : List ℕ → List ℕ → List Call → ℕ
accepted_waits t s [] = 0
accepted_waits t s (call ∷ calls) = cond (is_accepted (answer_to t s call)) (delta_of call) 0 + accepted_waits t (state_after t s call) calls

-- a plain action of graph g resets clock c; EPSILON and communications reset none
abbrev pub resets_on : List ℕ → ℕ → ℕ → ℕ → Communication → Bool
resets_on t g c a Plain = resets_clock (graph_part t g) a c
resets_on t g c a (On m q) = false

-- a call would reset clock c of graph g
abbrev pub reset_by : List ℕ → ℕ → ℕ → Call → Bool
reset_by t g c (transition f o a posts word) = eqb f g and resets_on t g c a (spoken_by t g a)
reset_by t g c (wait delta) = false
reset_by t g c (read r) = false

-- the time since clock c of graph g was reset once a call is accepted, if it was x before
abbrev pub time_on : List ℕ → ℕ → ℕ → Call → ℕ → ℕ
time_on t g c call x = cond (reset_by t g c call) 0 (x + delta_of call)

-- After a chain of calls, the sum of the deltas of the accepted waits since the last accepted step that resets clock c of graph g; where
-- there is none, of all accepted waits and the time x before the chain.
abbrev pub since_reset : List ℕ → ℕ → ℕ → List ℕ → List Call → ℕ → ℕ
since_reset t g c s [] x = x
since_reset t g c s (call ∷ calls) x =
    since_reset t g c (state_after t s call) calls (cond (is_accepted (answer_to t s call)) (time_on t g c call x) x)

-- no accepted call of a chain resets clock c of graph g
abbrev pub NoReset : List ℕ → ℕ → ℕ → List ℕ → List Call → Type 0
NoReset t g c s [] = Unit {0}
NoReset t g c s (call ∷ calls) =
    (is_accepted (answer_to t s call) ≡ true → reset_by t g c call ≡ false) × NoReset t g c (state_after t s call) calls
