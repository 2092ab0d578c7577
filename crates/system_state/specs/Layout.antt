-- Where the words of a state stand (docs/LAYOUT.md draws it). Every other file has these names.
use Rattle.std.specs.Prelude.{ℕ, ◌+◌, ◌*◌}
use Rattle.graph_tables.specs.RunWords.{run_words}
use Rattle.queues.specs.Layout.{queue_words}

-- ---- all words
abbrev pub state_words : ℕ
state_words = 1417

-- ---- regions: where each starts
abbrev pub time_cell : ℕ
time_cell = 0

abbrev pub runs_start : ℕ
runs_start = 1

abbrev pub queues_start : ℕ
queues_start = 377

-- ---- the run of graph g, and the queue of channel q
abbrev pub run_start : ℕ → ℕ
run_start g = runs_start + run_words * g

abbrev pub queue_start : ℕ → ℕ
queue_start q = queues_start + queue_words * q
