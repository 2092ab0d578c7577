-- The words that a system's table uses (docs/LAYOUT.md): its counts, what its channels and their capacities are, the communication of each
-- action, and the words that each graph uses. All others may be any.
use Rattle.std.specs.Prelude.{ℕ, ◌+◌, ◌<◌, ◌≡◌, List, get_or}
use Rattle.graph_tables.specs.Layout.{table_words}
use Rattle.graph_tables.specs.Words.{action_count, process_count}
use Rattle.graph_builder.specs.Used as Own
use Rattle.system_tables.specs.Sizes.{bounded_sort}
use Rattle.system_tables.specs.Layout.{channels_start, channel_row, channel_kind_cell, sort_cell, capacity_cell, communication_cell, graph_start}
use Rattle.system_tables.specs.Words.{SystemWords, graph_count, channel_count, width_of, sort_of, graph_part}
use Rattle.system_builder.specs.Systems.{empty_system_of}
use Rattle.system_builder.specs.Chains.{Call, after_all, AllFit}
use Rattle.system_builder.specs.Built.{AllAccepted}

pub data Uses (t : List ℕ) : ℕ → Type 0 where
  -- the two counts
  count : (c : ℕ) → c < channels_start → Uses t c
  -- channels: how many values a message has, the kind of each, the sort of the capacity, and its bound if it has one
  width : (q : ℕ) → q < channel_count t → Uses t (channel_row q)
  kind : (q e : ℕ) → q < channel_count t → e < width_of t q → Uses t (channel_kind_cell q e)
  sort : (q : ℕ) → q < channel_count t → Uses t (sort_cell q)
  bound : (q : ℕ) → q < channel_count t → sort_of t q ≡ bounded_sort → Uses t (capacity_cell q)
  -- graphs: the communication of each action, and, of the graph's own words, those that it uses by itself
  communication : (g a : ℕ) → g < graph_count t → a < action_count (graph_part t g) → Uses t (communication_cell g a)
  own : (g i : ℕ) → g < graph_count t → i < table_words → Own.Uses (graph_part t g) i → Uses t (graph_start g + i)

-- u has every word that t uses, in its place
abbrev pub HasWords : List ℕ → List ℕ → Type 0
HasWords t u = (i : ℕ) → Uses t i → get_or u i 0 ≡ get_or t i 0

-- these calls build what is in t: from the table that `new` leaves of s, each is accepted in its turn, and t has every word that the
-- table they leave uses
pub record BuiltBy (s t : List ℕ) (calls : List Call) : Type 0 where
  pub size : SystemWords t
  pub fit : AllFit calls
  pub accepted : AllAccepted (empty_system_of s).table calls
  pub words : HasWords (after_all (empty_system_of s).table calls) t

-- some calls do
abbrev pub Buildable : List ℕ → List ℕ → Type 0
Buildable s t = (calls : List Call) × BuiltBy s t calls

-- each graph has a process, so that they can be run
abbrev pub Startable : List ℕ → Type 0
Startable t = (g : ℕ) → g < graph_count t → 0 < process_count (graph_part t g)
