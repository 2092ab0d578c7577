-- A fresh state of a system: time 0, each graph's fresh run, empty queues. What the table does not have is not written.
use Rattle.std.specs.Prelude.{ℕ, zero, suc, List}
use Rattle.program_graph.specs.FreshWords.{fresh_words}
use Rattle.queues.specs.Queues.{emptied}
use Rattle.system_tables.specs.Words.{graph_count, channel_count, graph_part}
use Rattle.system_state.specs.Words.{with_time, run_part, with_run, queue_part, with_queue}

-- a fresh run for graph g
abbrev pub fresh_run_at : List ℕ → List ℕ → ℕ → List ℕ
fresh_run_at t s g = with_run s g (fresh_words (graph_part t g) (run_part s g))

-- an empty queue for channel q
abbrev pub fresh_queue_at : List ℕ → ℕ → List ℕ
fresh_queue_at s q = with_queue s q (emptied (queue_part s q))

-- for the first n graphs, and for the first n channels
unfoldable pub fresh_runs_below : List ℕ → List ℕ → ℕ → List ℕ
fresh_runs_below t s zero = s
fresh_runs_below t s (suc n) = fresh_run_at t (fresh_runs_below t s n) n

unfoldable pub fresh_queues_below : List ℕ → ℕ → List ℕ
fresh_queues_below s zero = s
fresh_queues_below s (suc n) = fresh_queue_at (fresh_queues_below s n) n

unfoldable pub fresh_state : List ℕ → List ℕ → List ℕ
fresh_state t s = fresh_queues_below (fresh_runs_below t (with_time s 0) (graph_count t)) (channel_count t)
