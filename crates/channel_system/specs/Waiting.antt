-- What the theorems on waits of a system speak of.
use Rattle.std.specs.Prelude.{ℕ, ◌+◌, ◌<◌, ◌≤◌, List, ◌⊎◌, get_or}
use Rattle.graph_tables.specs.Sizes.{last_time}
use Rattle.program_graph.specs.Facts.{Holding, Awaited}
use Rattle.program_graph.specs.Running.{later}
use Rattle.system_tables.specs.Words.{graph_count, graph_part}
use Rattle.system_state.specs.Words.{time_in}
use Rattle.channel_system.specs.Steps.{run_of}

-- ---- the last time
-- neither the time nor a clock of a graph would pass it
pub record InTime (t s : List ℕ) (delta : ℕ) : Type 0 where
  pub time : time_in s + delta ≤ last_time
  pub clocks : (g : ℕ) → g < graph_count t → (c : ℕ) → c < (run_of s g).clocks → get_or (run_of s g).times c 0 + delta ≤ last_time

-- a clock of some graph would
pub record ClockLate (t s : List ℕ) (delta : ℕ) : Type 0 where
  pub graph : ℕ
  pub known : graph < graph_count t
  pub clock : ℕ
  pub used : clock < (run_of s graph).clocks
  pub late : last_time < get_or (run_of s graph).times clock 0 + delta

-- the time would, or a clock
abbrev pub TooLate : List ℕ → List ℕ → ℕ → Type 0
TooLate t s delta = (last_time < time_in s + delta) ⊎ ClockLate t s delta

-- ---- invariants
-- those of every occupied location of graph g hold once the delta has passed
abbrev pub HoldsAfter : List ℕ → List ℕ → ℕ → ℕ → Type 0
HoldsAfter t s delta g = Holding (graph_part t g) (later (run_of s g) delta)

-- graph g is the lowest of which they do not
pub record Lowest (t s : List ℕ) (delta g : ℕ) : Type 0 where
  pub known : g < graph_count t
  pub objects : HoldsAfter t s delta g → ⊥
  pub before : (f : ℕ) → f < g → HoldsAfter t s delta f

-- ---- waiting: in some graph a transition will be open later
pub record SomeAwaited (t s : List ℕ) : Type 0 where
  pub graph : ℕ
  pub known : graph < graph_count t
  pub awaited : Awaited (graph_part t graph) (run_of s graph).times (run_of s graph).places (run_of s graph).processes
