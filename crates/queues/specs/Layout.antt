-- The words of a queue, by name: how many values were read, how many were written, then a ring of values, a kind and a payload each.
use Rattle.std.specs.Prelude.{◌≡◌, ℕ, ◌+◌, ◌*◌, ◌%◌, List, length, slice_index}

-- a queue has room for so many values (docs/RULES.md, 'Sizes'), and this many words
abbrev pub slot_room : ℕ
slot_room = 64

abbrev pub queue_words : ℕ
queue_words = 130

abbrev pub QueueWords : List ℕ → Type 0
QueueWords q = length q ≡ queue_words

-- ---- the counts
abbrev pub read_at : ℕ
read_at = 0

abbrev pub write_at : ℕ
write_at = 1

abbrev pub read_of : List ℕ → ℕ
read_of q = slice_index q read_at

abbrev pub write_of : List ℕ → ℕ
write_of q = slice_index q write_at

-- ---- the values: the counts are the first pair of words, each pair behind it is a place of the ring
abbrev pub pair_of : ℕ → ℕ
pair_of c = 1 + c % slot_room

-- the words of the value of count c
abbrev pub kind_place : ℕ → ℕ
kind_place c = 2 * pair_of c

abbrev pub payload_place : ℕ → ℕ
payload_place c = 2 * pair_of c + 1
