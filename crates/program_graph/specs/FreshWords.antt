-- A fresh run put into words: what the table has is written, and no other word (docs/LAYOUT.md, 'The words of a run').
use Rattle.std.specs.Prelude.{ℕ, zero, suc, ◌+◌, ◌*◌, List, set}
use Rattle.graph_tables.specs.Words.{variable_count, clock_count, process_count, kind_at, value_at, place_at}
use Rattle.graph_tables.specs.RunWords.{run_places_start, run_values_start, run_clocks_start}

-- ---- where each word stands: the place of process p, the kind and the payload of variable v, clock c
abbrev pub place_cell : ℕ → ℕ
place_cell p = run_places_start + p

abbrev pub kind_cell : ℕ → ℕ
kind_cell v = run_values_start + 2 * v

abbrev pub payload_cell : ℕ → ℕ
payload_cell v = run_values_start + 2 * v + 1

abbrev pub clock_cell : ℕ → ℕ
clock_cell c = run_clocks_start + c

-- ---- the words
-- for each k below n the word at `cell k` is f k
unfoldable pub put_below : List ℕ → (ℕ → ℕ) → (ℕ → ℕ) → ℕ → List ℕ
put_below r cell f zero = r
put_below r cell f (suc n) = set (put_below r cell f n) (cell n) (f n)

-- how many it has of each
abbrev pub fresh_counts : List ℕ → List ℕ → List ℕ
fresh_counts t r = set (set (set r 0 (process_count t)) 1 (variable_count t)) 2 (clock_count t)

-- each process where it starts
abbrev pub fresh_places : List ℕ → List ℕ → List ℕ
fresh_places t r = put_below r place_cell (place_at t) (process_count t)

-- each variable with its value
abbrev pub fresh_kinds : List ℕ → List ℕ → List ℕ
fresh_kinds t r = put_below r kind_cell (kind_at t) (variable_count t)

abbrev pub fresh_payloads : List ℕ → List ℕ → List ℕ
fresh_payloads t r = put_below r payload_cell (value_at t) (variable_count t)

-- each clock at 0
abbrev pub zero_time : ℕ → ℕ
zero_time c = 0

abbrev pub fresh_clocks : List ℕ → List ℕ → List ℕ
fresh_clocks t r = put_below r clock_cell zero_time (clock_count t)

unfoldable pub fresh_words : List ℕ → List ℕ → List ℕ
fresh_words t r = fresh_clocks t (fresh_payloads t (fresh_kinds t (fresh_places t (fresh_counts t r))))
