-- What the theorems on a system speak of.
use Rattle.std.specs.Prelude.{ℕ, ◌%◌, ◌<◌, ◌≤◌, ◌≡◌, true, false, List, length, get_or, Ok, Err, ⊤}
use Rattle.channel_system.specs.declared.answers.WaitError.{WaitError}
use Rattle.std.specs.declared.result.Result.{Result}
use Rattle.laws.specs.Below.{all_below}
use Rattle.grammar.specs.Evaluation.{blank}
use Rattle.grammar.specs.Slots.{kind_in}
use Rattle.graph_tables.specs.Refusals.{number_of}
use Rattle.graph_tables.specs.Words.{transition_count, key_of, pre_of, action_of, post_of}
use Rattle.run_steps.specs.Steps.{guard_holds}
use Rattle.run_steps.specs.Messages.{no_message}
use Rattle.program_graph.specs.declared.record.ProgramGraphRun.{ProgramGraphRun}
use Rattle.program_graph.specs.Running.{step_of}
use Rattle.program_graph.specs.Messaging.{sent_of, received_of}
use Rattle.queues.specs.Queues.{queue_of, slots_for}
use Rattle.system_tables.specs.declared.ids.Message.TheVariants.{Send, Receive, ProbeEmptyQueue, ProbeFullQueue}
use Rattle.system_tables.specs.declared.ids.Communication.{Communication}
use Rattle.system_tables.specs.declared.ids.Communication.TheVariants.{Plain, On}
use Rattle.system_tables.specs.Words.{graph_count, width_of, channel_kind, graph_part}
use Rattle.system_state.specs.Words.{queue_part}
use Rattle.system_state.specs.Fits.{ceiling_at}
use Rattle.channel_system.specs.Steps.{own_post, locations_of, run_of, oldest_in, no_event, event_of}
use Rattle.channel_system.specs.declared.answers.Event.{Event}

-- ---- the number of a wait's answer: 0 for ok, 9 where a graph objects
abbrev pub waited_number : Result ⊤ WaitError → ℕ
waited_number (Ok _) = 0
waited_number (Err (WaitError.Invariant g)) = 9
waited_number (Err (WaitError.Refused r)) = number_of r

-- ---- a step that is asked rightly: of a graph that there is, with a post of that graph for each of its processes
pub record AskedRightly (t s : List ℕ) (g : ℕ) (posts : List ℕ) : Type 0 where
  pub graph : g < graph_count t
  pub own : all_below (length posts) (own_post posts g) ≡ true
  pub one_each : length posts ≡ (run_of s g).processes

-- ---- a guard stands against a step: for this process, each transition from its place by the action to its post has a guard that is false
pub record GuardFalse (t s : List ℕ) (g a : ℕ) (posts : List ℕ) : Type 0 where
  pub process : ℕ
  pub here : process < (run_of s g).processes
  pub false_guard : (k : ℕ) → k < transition_count (graph_part t g)
      → pre_of (key_of (graph_part t g) k) ≡ get_or (run_of s g).places process 0
      → action_of (key_of (graph_part t g) k) ≡ a
      → post_of (key_of (graph_part t g) k) ≡ get_or (locations_of posts) process 0
      → guard_holds (graph_part t g) (run_of s g).vars k ≡ false

-- ---- the queue of channel q, as a list: whole messages, no more than the channel ever stores, each value of the kind that the channel has
-- at its place in a message
pub record QueueInShape (t s : List ℕ) (q : ℕ) : Type 0 where
  pub whole : length (queue_of (queue_part s q)) % slots_for (width_of t q) ≡ 0
  pub low : length (queue_of (queue_part s q)) ≤ ceiling_at t q
  pub kind : (i : ℕ) → i < length (queue_of (queue_part s q))
      → kind_in (get_or (queue_of (queue_part s q)) i blank).value ≡ channel_kind t q (i % slots_for (width_of t q))

-- ---- what an accepted step of graph g leaves as its run, by what its action is to the system: what the graph's own call gives
abbrev pub run_by : List ℕ → List ℕ → ℕ → ℕ → List ℕ → ℕ → Communication → ProgramGraphRun
run_by t s g a posts word Plain = (step_of (graph_part t g) (run_of s g) a (locations_of posts) word).run
run_by t s g a posts word (On Send q) = (sent_of (graph_part t g) (run_of s g) a (locations_of posts) word).run
run_by t s g a posts word (On Receive q) = (received_of (graph_part t g) (run_of s g) a (locations_of posts) (oldest_in t s q.0)).run
run_by t s g a posts word (On ProbeEmptyQueue q) = (sent_of (graph_part t g) (run_of s g) a (locations_of posts) word).run
run_by t s g a posts word (On ProbeFullQueue q) = (sent_of (graph_part t g) (run_of s g) a (locations_of posts) word).run

-- and what it returns: none, the values that the graph says, the oldest message of the queue, or no values
abbrev pub event_by : List ℕ → List ℕ → ℕ → ℕ → List ℕ → ℕ → Communication → Event
event_by t s g a posts word Plain = no_event g
event_by t s g a posts word (On Send q) =
    event_of g Send q.0 (sent_of (graph_part t g) (run_of s g) a (locations_of posts) word).message
event_by t s g a posts word (On Receive q) = event_of g Receive q.0 (oldest_in t s q.0)
event_by t s g a posts word (On ProbeEmptyQueue q) = event_of g ProbeEmptyQueue q.0 no_message
event_by t s g a posts word (On ProbeFullQueue q) = event_of g ProbeFullQueue q.0 no_message
