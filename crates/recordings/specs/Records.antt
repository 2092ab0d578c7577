-- A record, 32 bytes: what it says, whether it is good, and its bytes (docs/RULES.md, 'Recordings').
use Rattle.std.specs.Prelude.{ℕ, ◌+◌, ◌-◌, ◌*◌, Bool, cond, List, eqb, leb, get_or}
use Rattle.laws.specs.Below.{◌and◌}
use Rattle.recordings.specs.Layout.{post_bytes, post_room, posts_bytes, step_kind, wait_kind}
use Rattle.recordings.specs.Layout.{kind_byte, graph_byte, posts_byte, zero_byte, amount_byte, amount_bytes, first_post, word_byte, word_bytes}
use Rattle.recordings.specs.Layout.{answer_byte, tail_byte, tail_bytes}
use Rattle.recordings.specs.Numbers.{number_at, zeros_at, row}

-- a step, of a graph by an action to posts with a word, or a wait of a delta; and the answer that was recorded
pub data Entry : Type 0 where
  step : ℕ → ℕ → List ℕ → ℕ → ℕ → Entry
  wait : ℕ → ℕ → Entry

abbrev pub recorded_in : Entry → ℕ
recorded_in (step g a posts word answer) = answer
recorded_in (wait delta answer) = answer

-- ---- what the bytes say
abbrev pub kind_in : List ℕ → ℕ
kind_in r = get_or r kind_byte 0

abbrev pub graph_in : List ℕ → ℕ
graph_in r = get_or r graph_byte 0

abbrev pub post_count_in : List ℕ → ℕ
post_count_in r = get_or r posts_byte 0

-- the action of a step, the delta of a wait
abbrev pub amount_in : List ℕ → ℕ
amount_in r = number_at r amount_byte amount_bytes

abbrev pub post_place : ℕ → ℕ
post_place j = first_post + post_bytes * j

abbrev pub post_in : List ℕ → ℕ → ℕ
post_in r j = number_at r (post_place j) post_bytes

abbrev pub word_in : List ℕ → ℕ
word_in r = number_at r word_byte word_bytes

abbrev pub answer_in : List ℕ → ℕ
answer_in r = get_or r answer_byte 0

unfoldable pub entry_of : List ℕ → Entry
entry_of r =
    cond (eqb (kind_in r) step_kind)
    (step (graph_in r) (amount_in r) (row (post_in r) 0 (post_count_in r)) (word_in r) (answer_in r))
    (wait (amount_in r) (answer_in r))

-- ---- whether they are good
-- a step: at most four posts, and those past their number are 0
unfoldable pub good_step : List ℕ → Bool
good_step r = leb (post_count_in r) post_room
    and zeros_at r (post_place (post_count_in r)) (post_bytes * (post_room - post_count_in r))

-- a wait: graph, number of posts, posts and word are 0
unfoldable pub good_wait : List ℕ → Bool
good_wait r = eqb (graph_in r) 0
    and (eqb (post_count_in r) 0
    and zeros_at r first_post (posts_bytes + word_bytes))

unfoldable pub good_kind : List ℕ → Bool
good_kind r = cond (eqb (kind_in r) step_kind) (good_step r) (eqb (kind_in r) wait_kind and good_wait r)

-- and the fourth byte and the last seven are 0
unfoldable pub good_record : List ℕ → Bool
good_record r = eqb (get_or r zero_byte 0) 0
    and (zeros_at r tail_byte tail_bytes
    and good_kind r)
