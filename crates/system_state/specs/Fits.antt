-- Whether a state that is handed in is one of a system's table (docs/RULES.md, 'Bad state' and 'Systems'). Runs and queues past the
-- table's counts are not looked at.
use Rattle.std.specs.Prelude.{ℕ, ◌<◌, ◌≤◌, Bool, List, eqb, leb, length}
use Rattle.laws.specs.Below.{◌and◌, all_below}
use Rattle.graph_tables.specs.Sizes.{last_time}
use Rattle.program_graph.specs.Fits.{run_words_fit, RunKept}
use Rattle.queues.specs.Fits.{queue_fits, QueueKept}
use Rattle.system_tables.specs.Words.{graph_count, channel_count, width_of, channel_kinds, capacity_of, graph_part}
use Rattle.system_tables.specs.Ceiling.{ceiling}
use Rattle.system_state.specs.Layout.{state_words}
use Rattle.system_state.specs.Words.{StateWords, time_in, run_part, queue_part}

-- the most slots that channel q ever takes
abbrev pub ceiling_at : List ℕ → ℕ → ℕ
ceiling_at t q = ceiling (width_of t q) (capacity_of t q)

-- the time has 32 bits
unfoldable pub time_fits : List ℕ → Bool
time_fits s = leb (time_in s) last_time

-- the run of graph g is one of the graph's
unfoldable pub run_fits : List ℕ → List ℕ → ℕ → Bool
run_fits t s g = run_words_fit (graph_part t g) (run_part s g)

-- the queue of channel q is one of the channel's
unfoldable pub queue_fits_at : List ℕ → List ℕ → ℕ → Bool
queue_fits_at t s q = queue_fits (queue_part s q) (channel_kinds t q) (ceiling_at t q)

-- the whole test
unfoldable pub state_fits : List ℕ → List ℕ → Bool
state_fits t s =
    eqb (length s) state_words and time_fits s and all_below (graph_count t) (run_fits t s) and all_below (channel_count t) (queue_fits_at t s)

-- ---- the same as facts
pub record StateSound (t s : List ℕ) : Type 0 where
  pub words : StateWords s
  pub time : time_in s ≤ last_time
  pub run : (g : ℕ) → g < graph_count t → RunKept (graph_part t g) (run_part s g)
  pub queue : (q : ℕ) → q < channel_count t → QueueKept (queue_part s q) (channel_kinds t q) (ceiling_at t q)
