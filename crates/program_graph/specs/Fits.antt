-- Whether words that are handed in are a run of the table (docs/RULES.md, 'Bad state'). What stands past the table's counts is not read.
use Rattle.std.specs.Prelude.{ℕ, ◌+◌, ◌*◌, ◌<◌, ◌≤◌, Bool, List, eqb, get_or}
use Rattle.laws.specs.Below.{◌and◌, all_below}
use Rattle.graph_tables.specs.Sizes.{last_time}
use Rattle.graph_tables.specs.Words.{variable_count, clock_count, process_count, kind_at}
use Rattle.graph_tables.specs.RunWords.{places_in, vars_in, clocks_in}
use Rattle.run_steps.specs.Steps.{clock_fits}
use Rattle.grammar.specs.Slots.{is_value}
use Rattle.program_graph.specs.Running.{place_known, counts_same}
use Rattle.program_graph.specs.Inner.{run_at, RunOf}

-- the two words of variable v are those of a value of its kind
unfoldable pub var_words_fit : List ℕ → List ℕ → ℕ → Bool
var_words_fit t ws v = eqb (get_or ws (2 * v) 0) (kind_at t v) and is_value (get_or ws (2 * v) 0) (get_or ws (2 * v + 1) 0)

-- as many of each as the table has; each process at a location, each variable with a value of its kind, no clock past the last time
unfoldable pub run_words_fit : List ℕ → List ℕ → Bool
run_words_fit t r =
    counts_same t (run_at r) and all_below (process_count t) (place_known t (places_in r)) and
    all_below (variable_count t) (var_words_fit t (vars_in r)) and all_below (clock_count t) (clock_fits (clocks_in r) 0)

-- ---- the same as facts
pub record RunKept (t r : List ℕ) : Type 0 where
  pub run : RunOf t r
  pub times : (c : ℕ) → c < clock_count t → get_or (clocks_in r) c 0 ≤ last_time
