-- What holds of a system that is run, in one place: after a chain of calls, with any arguments and whatever they answer, from state u.
use Rattle.std.specs.Prelude.{ℕ, ◌<◌, ◌≤◌, ◌≡◌, List, [], ◌++◌, get_or}
use Rattle.graph_tables.specs.Words.{clock_count}
use Rattle.program_graph.specs.Facts.{Holding}
use Rattle.program_graph.specs.Running.{later}
use Rattle.queues.specs.Queues.{queue_of}
use Rattle.system_tables.specs.declared.ids.ChannelCapacity.TheVariants.{Sink}
use Rattle.system_tables.specs.Words.{graph_count, channel_count, capacity_of, graph_part}
use Rattle.system_state.specs.Words.{time_in, queue_part}
use Rattle.channel_system.specs.Steps.{run_of}
use Rattle.channel_system.specs.Told.{QueueInShape}
use Rattle.channel_system.specs.Chains.{Call, wait, answer_to, state_after_all, sent_over, received_over, accepted_waits, since_reset}

pub record Demanded (t u : List ℕ) (calls : List Call) : Type 0 where
  -- no call answers 32
  pub known : (call : Call) → answer_to t (state_after_all t u calls) call ≡ 32 → ⊥
  -- every invariant of every occupied location of every graph holds
  pub invariants : (g : ℕ) → g < graph_count t → Holding (graph_part t g) (run_of (state_after_all t u calls) g)
  -- so they do at every instant of a wait that is then accepted, from its start to its end
  pub throughout : (delta : ℕ) → answer_to t (state_after_all t u calls) (wait delta) ≡ 0 → (g : ℕ) → g < graph_count t
      → (d : ℕ) → d ≤ delta → Holding (graph_part t g) (later (run_of (state_after_all t u calls) g) d)
  -- the time is the sum of the accepted waits
  pub time : time_in (state_after_all t u calls) ≡ accepted_waits t u calls
  -- each clock of each graph is the sum of the accepted waits since the last accepted step that resets it, or since the start
  pub clock : (g : ℕ) → g < graph_count t → (c : ℕ) → c < clock_count (graph_part t g)
      → get_or (run_of (state_after_all t u calls) g).times c 0 ≡ since_reset t g c u calls 0
  -- for a channel that is no sink: what was sent, in order, is what was received, in order, followed by the queue
  pub values : (q : ℕ) → q < channel_count t → (capacity_of t q ≡ Sink → ⊥)
      → sent_over q t u calls ≡ received_over q t u calls ++ queue_of (queue_part (state_after_all t u calls) q)
  -- the queue of a sink is empty
  pub sink : (q : ℕ) → q < channel_count t → capacity_of t q ≡ Sink → queue_of (queue_part (state_after_all t u calls) q) ≡ []
  -- each queue is in whole messages of its channel's kinds, within the channel's ceiling
  pub queue : (q : ℕ) → q < channel_count t → QueueInShape t (state_after_all t u calls) q
