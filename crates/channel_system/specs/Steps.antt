-- A step of a system (docs/RULES.md, 'Systems'): the answer, and the state afterwards. A refusal gives back the state that came in.
use Rattle.std.specs.Prelude.{ℕ, ◌+◌, ◌/◌, ◌%◌, Bool, true, false, cond, List, [], ◌∷◌, eqb, leb, ltb, length, get_or, Ok, Err, ⊤}
use Rattle.graph_tables.specs.Answers.{Answer}
use Rattle.laws.specs.Ladder.{unless}
use Rattle.laws.specs.Below.{◌and◌, all_below}
use Rattle.graph_tables.specs.Sizes.{process_room, word32}
use Rattle.graph_tables.specs.Words.{action_count}
use Rattle.graph_tables.specs.Refusals.{refusal}
use Rattle.graph_tables.specs.declared.refusals.Refusal.{Refusal}
use Rattle.graph_tables.specs.declared.handed.Message as Values
use Rattle.run_steps.specs.Messages.{no_message}
use Rattle.program_graph.specs.declared.record.ProgramGraphRun.{ProgramGraphRun}
use Rattle.program_graph.specs.Running.{step_of}
use Rattle.program_graph.specs.Messaging.{sent_of, received_of}
use Rattle.program_graph.specs.Inner.{run_at}
use Rattle.program_graph.specs.Written.{words_of}
use Rattle.queues.specs.Queues.{stored_of, slots_for, pushed_all, dropped, first_of}
use Rattle.system_tables.specs.declared.ids.ChannelCapacity.{ChannelCapacity}
use Rattle.system_tables.specs.declared.ids.ChannelCapacity.TheVariants.{Bounded, Unbounded, Sink}
use Rattle.system_tables.specs.declared.ids.Message.{Message}
use Rattle.system_tables.specs.declared.ids.Message.TheVariants.{Send, Receive, ProbeEmptyQueue, ProbeFullQueue}
use Rattle.system_tables.specs.declared.ids.Communication.{Communication}
use Rattle.system_tables.specs.declared.ids.Communication.TheVariants.{Plain, On}
use Rattle.system_tables.specs.Words.{graph_count, width_of, capacity_of, graph_part, communication_of}
use Rattle.system_tables.specs.Formed.{system_formed}
use Rattle.system_state.specs.Words.{run_part, with_run, queue_part, with_queue}
use Rattle.system_state.specs.Fits.{state_fits}
use Rattle.channel_system.specs.Channels.{step_test}
use Rattle.channel_system.specs.declared.answers.Event.{Event}

-- 'Bad state': the table is one that can be run, and the state is one of the table's
unfoldable pub system_fits : List ℕ → List ℕ → Bool
system_fits t s = system_formed t false and state_fits t s

-- ---- posts: each is a word, graph * 2^32 + location
unfoldable pub own_post : List ℕ → ℕ → ℕ → Bool
own_post posts g i = eqb (get_or posts i 0 / word32) g

unfoldable pub locations_of : List ℕ → List ℕ
locations_of [] = []
locations_of (p ∷ ps) = p % word32 ∷ locations_of ps

-- a run has few processes: of more posts than this the number alone counts
abbrev pub few_posts : ℕ
few_posts = process_room + 1

unfoldable pub few_of : ℕ → ℕ
few_of n = cond (leb few_posts n) few_posts n

-- ---- the run of graph g, and the state once a call has left another run there
abbrev pub run_of : List ℕ → ℕ → ProgramGraphRun
run_of s g = run_at (run_part s g)

abbrev pub ran_to : List ℕ → List ℕ → ℕ → ProgramGraphRun → List ℕ
ran_to t s g run = with_run s g (words_of (graph_part t g) (run_part s g) run)

-- ---- the queue of channel q: a message more, behind the others; of a sink nothing is stored
abbrev pub stores : ChannelCapacity → Bool
stores (Bounded n) = true
stores Unbounded = true
stores Sink = false

unfoldable pub sent_into : List ℕ → List ℕ → ℕ → Values.Message → List ℕ
sent_into t s q m = cond (stores (capacity_of t q)) (with_queue s q (pushed_all (queue_part s q) m)) s

-- the oldest message, and the queue without it
abbrev pub oldest_in : List ℕ → List ℕ → ℕ → Values.Message
oldest_in t s q = first_of (queue_part s q) (width_of t q)

abbrev pub taken_from : List ℕ → List ℕ → ℕ → List ℕ
taken_from t s q = with_queue s q (dropped (queue_part s q) (slots_for (width_of t q)))

-- ---- what was asked for where the answer is ok, else its refusal
abbrev pub carrying : {A : Type 0} → Answer ⊤ → A → Answer A
carrying (Ok _) x = Ok x
carrying (Err r) x = Err r

-- ---- an answer with its event, and the state afterwards
pub record Stepped : Type 0 where
  pub answer : Answer ⊤
  pub event : Event

pub record Moved : Type 0 where
  pub told : Stepped
  pub state : List ℕ

-- of graph g: no event, and the one of values on a channel
abbrev pub no_event : ℕ → Event
no_event g = record { pg_id = record { 0 = g }; on = Plain; values = no_message }

abbrev pub event_of : ℕ → Message → ℕ → Values.Message → Event
event_of g m q values = record { pg_id = record { 0 = g }; on = On m (record { 0 = q }); values = values }

-- what the graph's own call answers decides: a refusal has no event and leaves the state s
abbrev pub left_by : Answer ⊤ → List ℕ → List ℕ → List ℕ
left_by (Ok _) s u = u
left_by (Err r) s u = s

abbrev pub event_if : Answer ⊤ → ℕ → Event → Event
event_if (Ok _) g e = e
event_if (Err r) g e = no_event g

abbrev pub told_if : Answer ⊤ → ℕ → List ℕ → Event → List ℕ → Moved
told_if d g s e u = record { told = record { answer = d; event = event_if d g e }; state = left_by d s u }

abbrev pub refused_with : Refusal → ℕ → List ℕ → Moved
refused_with r g s = record { told = record { answer = Err r; event = no_event g }; state = s }

abbrev pub refused_step : ℕ → ℕ → List ℕ → Moved
refused_step n g s = refused_with (refusal n) g s

-- ---- a plain step goes as the graph's does
unfoldable pub plain_step : List ℕ → List ℕ → ℕ → ℕ → List ℕ → ℕ → Moved
plain_step t s g a posts word =
    told_if (step_of (graph_part t g) (run_of s g) a posts word).answer g s (no_event g)
    (ran_to t s g (step_of (graph_part t g) (run_of s g) a posts word).run)

-- ---- a communication whose channel is open: the graph's own send or receive; the run, and then the queue, is changed
unfoldable pub send_step : List ℕ → List ℕ → ℕ → ℕ → List ℕ → ℕ → ℕ → Moved
send_step t s g a posts word q =
    told_if (sent_of (graph_part t g) (run_of s g) a posts word).answer g s
    (event_of g Send q (sent_of (graph_part t g) (run_of s g) a posts word).message)
    (sent_into t (ran_to t s g (sent_of (graph_part t g) (run_of s g) a posts word).run) q
    (sent_of (graph_part t g) (run_of s g) a posts word).message)

unfoldable pub receive_step : List ℕ → List ℕ → ℕ → ℕ → List ℕ → ℕ → Moved
receive_step t s g a posts q =
    told_if (received_of (graph_part t g) (run_of s g) a posts (oldest_in t s q)).answer g s
    (event_of g Receive q (oldest_in t s q))
    (taken_from t (ran_to t s g (received_of (graph_part t g) (run_of s g) a posts (oldest_in t s q)).run) q)

-- a probe leaves the queue; in its graph it is a send of no values
unfoldable pub probe_step : List ℕ → List ℕ → ℕ → ℕ → List ℕ → ℕ → ℕ → Message → Moved
probe_step t s g a posts word q m =
    told_if (sent_of (graph_part t g) (run_of s g) a posts word).answer g s (event_of g m q no_message)
    (ran_to t s g (sent_of (graph_part t g) (run_of s g) a posts word).run)

abbrev pub message_step : List ℕ → List ℕ → ℕ → ℕ → List ℕ → ℕ → ℕ → Message → Moved
message_step t s g a posts word q Send = send_step t s g a posts word q
message_step t s g a posts word q Receive = receive_step t s g a posts q
message_step t s g a posts word q ProbeEmptyQueue = probe_step t s g a posts word q ProbeEmptyQueue
message_step t s g a posts word q ProbeFullQueue = probe_step t s g a posts word q ProbeFullQueue

-- ---- the channel is asked first
abbrev pub open_if : Answer ⊤ → ℕ → List ℕ → Moved → Moved
open_if (Ok _) g s rest = rest
open_if (Err r) g s rest = refused_with r g s

abbrev pub channel_answer : List ℕ → List ℕ → ℕ → Message → Answer ⊤
channel_answer t s q m = step_test m (stored_of (queue_part s q)) (width_of t q) (capacity_of t q)

abbrev pub step_as : List ℕ → List ℕ → ℕ → ℕ → List ℕ → ℕ → Communication → Moved
step_as t s g a posts word Plain = plain_step t s g a posts word
step_as t s g a posts word (On m q) = open_if (channel_answer t s q.0 m) g s (message_step t s g a posts word q.0 m)

-- an action that the graph does not have, and EPSILON, is on no channel
abbrev pub spoken_by : List ℕ → ℕ → ℕ → Communication
spoken_by t g a = cond (ltb a (action_count (graph_part t g))) (communication_of t g a) Plain

-- ---- 17 if there is no graph g, 18 for an action of graph o that is another, 19 for a post of another
unfoldable pub moved_of : List ℕ → List ℕ → ℕ → ℕ → ℕ → List ℕ → ℕ → Moved
moved_of t s g o a posts word =
    unless (ltb g (graph_count t)) (refused_step 17 g s)
    (unless (eqb o g) (refused_step 18 g s)
    (unless (all_below (length posts) (own_post posts g)) (refused_step 19 g s)
    (step_as t s g a (locations_of posts) word (spoken_by t g a))))

unfoldable pub transition_of : List ℕ → List ℕ → ℕ → ℕ → ℕ → List ℕ → ℕ → Moved
transition_of t s g o a posts word = unless (system_fits t s) (refused_step 32 g s) (moved_of t s g o a posts word)
