-- The words of a state, by name: the time, a run for each graph, a queue for each channel.
use Rattle.std.specs.Prelude.{ℕ, List, ◌++◌, ◌≡◌, length, get_or, set, take, drop}
use Rattle.graph_tables.specs.RunWords.{run_words}
use Rattle.queues.specs.Layout.{queue_words}
use Rattle.system_state.specs.Layout.{state_words, time_cell, run_start, queue_start}

-- a state has this many words
abbrev pub StateWords : List ℕ → Type 0
StateWords s = length s ≡ state_words

-- ---- the time
abbrev pub time_in : List ℕ → ℕ
time_in s = get_or s time_cell 0

abbrev pub with_time : List ℕ → ℕ → List ℕ
with_time s n = set s time_cell n

-- ---- the run of graph g, and the state with this run there
abbrev pub run_part : List ℕ → ℕ → List ℕ
run_part s g = take run_words (drop (run_start g) s)

abbrev pub with_run : List ℕ → ℕ → List ℕ → List ℕ
with_run s g new = take (run_start g) s ++ (new ++ drop run_words (drop (run_start g) s))

-- ---- the queue of channel q, and the state with this queue there
abbrev pub queue_part : List ℕ → ℕ → List ℕ
queue_part s q = take queue_words (drop (queue_start q) s)

abbrev pub with_queue : List ℕ → ℕ → List ℕ → List ℕ
with_queue s q new = take (queue_start q) s ++ (new ++ drop queue_words (drop (queue_start q) s))
