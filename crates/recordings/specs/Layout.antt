-- Where the bytes of a block and of a record stand (docs/LAYOUT.md, 'Recordings'). src/layout.rt names the same places.
use Rattle.std.specs.Prelude.{ℕ, ◌+◌, ◌*◌}

-- ---- a block: its place in the recording, the count of its records, zeros, the records, the sum
abbrev pub block_bytes : ℕ
block_bytes = 512

abbrev pub place_bytes : ℕ
place_bytes = 4

abbrev pub count_byte : ℕ
count_byte = 4

abbrev pub head_zeros : ℕ
head_zeros = 5

abbrev pub head_zero_bytes : ℕ
head_zero_bytes = 23

abbrev pub head_bytes : ℕ
head_bytes = 28

abbrev pub record_room : ℕ
record_room = 15

abbrev pub record_bytes : ℕ
record_bytes = 32

abbrev pub sum_byte : ℕ
sum_byte = 508

abbrev pub sum_bytes : ℕ
sum_bytes = 4

abbrev pub record_start : ℕ → ℕ
record_start i = head_bytes + record_bytes * i

-- ---- a record: kind, graph, number of posts, zero, action or delta, posts, word, answer, zeros
abbrev pub kind_byte : ℕ
kind_byte = 0

abbrev pub graph_byte : ℕ
graph_byte = 1

abbrev pub posts_byte : ℕ
posts_byte = 2

abbrev pub zero_byte : ℕ
zero_byte = 3

abbrev pub amount_byte : ℕ
amount_byte = 4

abbrev pub amount_bytes : ℕ
amount_bytes = 4

abbrev pub first_post : ℕ
first_post = 8

abbrev pub post_bytes : ℕ
post_bytes = 2

abbrev pub post_room : ℕ
post_room = 4

abbrev pub posts_bytes : ℕ
posts_bytes = 8

abbrev pub word_byte : ℕ
word_byte = 16

abbrev pub word_bytes : ℕ
word_bytes = 8

abbrev pub answer_byte : ℕ
answer_byte = 24

abbrev pub tail_byte : ℕ
tail_byte = 25

abbrev pub tail_bytes : ℕ
tail_bytes = 7

-- the two kinds
abbrev pub step_kind : ℕ
step_kind = 1

abbrev pub wait_kind : ℕ
wait_kind = 2
