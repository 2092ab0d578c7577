-- A wait of a system, and whether it is waiting (docs/RULES.md, 'Systems'): the answer, and the state afterwards.
use Rattle.std.specs.Prelude.{ℕ, zero, suc, ◌+◌, Bool, List, leb, Ok, Err, ⊤}
use Rattle.graph_tables.specs.Answers.{Answer}
use Rattle.channel_system.specs.declared.answers.WaitError.{WaitError}
use Rattle.std.specs.declared.result.Result.{Result}
use Rattle.laws.specs.Ladder.{unless}
use Rattle.laws.specs.Below.{◌and◌, all_below, any_below}
use Rattle.graph_tables.specs.Sizes.{last_time}
use Rattle.graph_tables.specs.Refusals.{refusal}
use Rattle.run_steps.specs.Lowest.{lowest}
use Rattle.program_graph.specs.Running.{wait_fits, wait_holds, waits_on, later}
use Rattle.system_tables.specs.Words.{graph_count, graph_part}
use Rattle.system_state.specs.Words.{time_in, with_time}
use Rattle.channel_system.specs.Steps.{system_fits, run_of, ran_to}

-- ---- of one graph
-- no clock of graph g would pass the last time
unfoldable pub clocks_fit : List ℕ → ℕ → ℕ → Bool
clocks_fit s delta g = wait_fits (run_of s g) delta

-- its invariants hold at the end
unfoldable pub graph_holds : List ℕ → List ℕ → ℕ → ℕ → Bool
graph_holds t s delta g = wait_holds (graph_part t g) (run_of s g) delta

-- the state with its clocks moved
abbrev pub later_on : List ℕ → List ℕ → ℕ → ℕ → List ℕ
later_on t s delta g = ran_to t s g (later (run_of s g) delta)

-- ---- of all
-- neither the time nor a clock would pass the last time
unfoldable pub all_fit : List ℕ → List ℕ → ℕ → Bool
all_fit t s delta = leb (time_in s + delta) last_time and all_below (graph_count t) (clocks_fit s delta)

-- the clocks of the first n graphs moved
unfoldable pub later_below : List ℕ → List ℕ → ℕ → ℕ → List ℕ
later_below t s delta zero = s
later_below t s delta (suc n) = later_on t (later_below t s delta n) delta n

unfoldable pub later_state : List ℕ → List ℕ → ℕ → List ℕ
later_state t s delta = with_time (later_below t s delta (graph_count t)) (time_in s + delta)

-- ---- the wait
pub record Passed : Type 0 where
  pub answer : Result ⊤ WaitError
  pub state : List ℕ

abbrev pub refused_wait : Result ⊤ WaitError → List ℕ → Passed
refused_wait w s = record { answer = w; state = s }

-- 26, then 9 with the lowest graph that objects
unfoldable pub passed_of : List ℕ → List ℕ → ℕ → Passed
passed_of t s delta =
    unless (all_fit t s delta) (refused_wait (Err (WaitError.Refused (refusal 26))) s)
    (unless (all_below (graph_count t) (graph_holds t s delta))
    (refused_wait (Err (WaitError.Invariant (record { 0 = lowest (graph_count t) (graph_holds t s delta) }))) s)
    (record { answer = Ok tt; state = later_state t s delta }))

unfoldable pub wait_of : List ℕ → List ℕ → ℕ → Passed
wait_of t s delta = unless (system_fits t s) (refused_wait (Err (WaitError.Refused (refusal 32))) s) (passed_of t s delta)

-- ---- whether a wait would be accepted
unfoldable pub wait_open : List ℕ → List ℕ → ℕ → Bool
wait_open t s delta = all_fit t s delta and all_below (graph_count t) (graph_holds t s delta)

unfoldable pub can_wait_of : List ℕ → List ℕ → ℕ → Answer Bool
can_wait_of t s delta = unless (system_fits t s) (Err (refusal 32)) (Ok (wait_open t s delta))

-- ---- a wait of 1 would be accepted, and some graph is waiting
unfoldable pub graph_waits : List ℕ → List ℕ → ℕ → Bool
graph_waits t s g = waits_on (graph_part t g) (run_of s g)

unfoldable pub system_waits : List ℕ → List ℕ → Bool
system_waits t s = wait_open t s 1 and any_below (graph_count t) (graph_waits t s)

unfoldable pub is_waiting_of : List ℕ → List ℕ → Answer Bool
is_waiting_of t s = unless (system_fits t s) (Err (refusal 32)) (Ok (system_waits t s))
