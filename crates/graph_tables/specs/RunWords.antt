-- The words of a run, by name: its counts, the place of each process, a kind and a payload for each variable, the clocks.
use Rattle.std.specs.Prelude.{ℕ, ◌*◌, List, ◌≡◌, length, get_or, take, drop}
use Rattle.graph_tables.specs.Sizes.{process_room, variable_room, clock_room}

-- a run has this many words
abbrev pub run_words : ℕ
run_words = 47

abbrev pub RunWords : List ℕ → Type 0
RunWords r = length r ≡ run_words

-- ---- where each part starts
abbrev pub run_places_start : ℕ
run_places_start = 3

abbrev pub run_values_start : ℕ
run_values_start = 7

abbrev pub run_clocks_start : ℕ
run_clocks_start = 39

-- ---- counts
abbrev pub run_processes : List ℕ → ℕ
run_processes r = get_or r 0 0

abbrev pub run_variables : List ℕ → ℕ
run_variables r = get_or r 1 0

abbrev pub run_clocks : List ℕ → ℕ
run_clocks r = get_or r 2 0

-- ---- parts: a place for each process, a kind and a payload for each variable, a time for each clock
abbrev pub places_in : List ℕ → List ℕ
places_in r = take process_room (drop run_places_start r)

abbrev pub vars_in : List ℕ → List ℕ
vars_in r = take (2 * variable_room) (drop run_values_start r)

abbrev pub clocks_in : List ℕ → List ℕ
clocks_in r = take clock_room (drop run_clocks_start r)
