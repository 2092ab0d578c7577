-- What the inner functions ask for, and what they leave.
use Rattle.std.specs.Prelude.{ℕ, ◌<◌, ◌≡◌, List, ⊤}
use Rattle.graph_tables.specs.Answers.{Answer}
use Rattle.graph_tables.specs.Words.{action_count}
use Rattle.program_graph.specs.declared.record.ProgramGraphRun.{ProgramGraphRun}
use Rattle.system_tables.specs.Sizes.{channel_room}
use Rattle.system_tables.specs.Words.{graph_count, graph_part, communication_of}
use Rattle.system_tables.specs.Sound.{SystemSound}
use Rattle.system_tables.specs.declared.ids.Message.{Message}
use Rattle.system_tables.specs.declared.ids.Communication.TheVariants.{On}
use Rattle.system_state.specs.Words.{StateWords, queue_part}
use Rattle.system_state.specs.Fits.{StateSound}
use Rattle.channel_system.specs.Steps.{ran_to, left_by, carrying, Moved}
use Rattle.channel_system.specs.declared.answers.Event.{Event}

-- a table that can be run, a state of it, and a graph that it has
pub record Fitting (t s : List ℕ) (g : ℕ) : Type 0 where
  pub table : SystemSound t
  pub state : StateSound t s
  pub known : g < graph_count t

-- action a of graph g is this message on channel q
pub record Speaks (t : List ℕ) (g a : ℕ) (m : Message) (q : ℕ) : Type 0 where
  pub action : a < action_count (graph_part t g)
  pub word : communication_of t g a ≡ On m (record { 0 = q })

-- a call of graph g left this run, unless it refused; every queue is as it was
pub record Ran (t s : List ℕ) (g : ℕ) (answer : Answer ⊤) (run : ProgramGraphRun) (u : List ℕ) : Type 0 where
  pub state : u ≡ left_by answer s (ran_to t s g run)
  pub words : StateWords u
  pub queue : (q : ℕ) → q < channel_room → queue_part u q ≡ queue_part s q

-- what is told, and the state, are those of a step
abbrev pub DidMove : Answer Event → List ℕ → Moved → Type 0
DidMove told u m = (told ≡ carrying m.told.answer m.told.event) × (u ≡ m.state)
