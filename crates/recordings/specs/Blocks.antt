-- A block, 512 bytes, and the blocks of a recording (docs/RULES.md, 'Recordings').
use Rattle.std.specs.Prelude.{ℕ, zero, suc, ◌+◌, ◌-◌, ◌*◌, ◌/◌, Bool, cond, List, [], ◌++◌, eqb, leb, ltb, length, get_or}
use Rattle.laws.specs.Below.{◌and◌, all_below, sum_below}
use Rattle.recordings.specs.Layout.{block_bytes, place_bytes, count_byte, head_zeros, head_zero_bytes, record_room, record_bytes, record_start}
use Rattle.recordings.specs.Layout.{sum_byte, sum_bytes}
use Rattle.recordings.specs.Numbers.{part, number_at, zeros_at, row}
use Rattle.recordings.specs.Records.{Entry, entry_of, good_record}

-- ---- what the bytes say
-- the sum over the bytes before it, of each times its place counted from 1
abbrev pub weighed : List ℕ → ℕ → ℕ
weighed b i = get_or b i 0 * (i + 1)

unfoldable pub sum_of : List ℕ → ℕ
sum_of b = sum_below sum_byte (weighed b)

abbrev pub place_in : List ℕ → ℕ
place_in b = number_at b 0 place_bytes

abbrev pub count_in : List ℕ → ℕ
count_in b = get_or b count_byte 0

abbrev pub sum_in : List ℕ → ℕ
sum_in b = number_at b sum_byte sum_bytes

-- record i, and what it says
abbrev pub record_part : List ℕ → ℕ → List ℕ
record_part b i = part b (record_start i) record_bytes

abbrev pub entry_at : List ℕ → ℕ → Entry
entry_at b i = entry_of (record_part b i)

-- the records of a block
abbrev pub entries_of : List ℕ → List Entry
entries_of b = row (entry_at b) 0 (count_in b)

-- ---- whether they are good
-- a block that is not the last is full
abbrev pub good_count : ℕ → Bool → Bool
good_count n last = cond last (leb n record_room) (eqb n record_room)

-- a record below the count is good, every other is zeros
unfoldable pub good_slot : List ℕ → ℕ → Bool
good_slot b i = cond (ltb i (count_in b)) (good_record (record_part b i)) (zeros_at (record_part b i) 0 record_bytes)

-- a block at this place of a recording, the last or not
unfoldable pub good_block : List ℕ → ℕ → Bool → Bool
good_block b place last = eqb (length b) block_bytes
    and (eqb (place_in b) place
    and (good_count (count_in b) last
    and (zeros_at b head_zeros head_zero_bytes
    and (eqb (sum_in b) (sum_of b)
    and all_below record_room (good_slot b)))))

-- ---- a recording
-- how many blocks so many bytes are, the last one perhaps short
unfoldable pub blocks_in : ℕ → ℕ
blocks_in n = (n + (block_bytes - 1)) / block_bytes

abbrev pub block_start : ℕ → ℕ
block_start k = block_bytes * k

-- block k of a recording
abbrev pub block_at : List ℕ → ℕ → List ℕ
block_at bytes k = part bytes (block_start k) block_bytes

-- no byte follows block k
abbrev pub last_at : List ℕ → ℕ → Bool
last_at bytes k = leb (length bytes) (block_start (k + 1))

abbrev pub good_at : List ℕ → ℕ → Bool
good_at bytes k = good_block (block_at bytes k) k (last_at bytes k)

-- the records of n blocks from block k on, and of all
unfoldable pub entries_from : List ℕ → ℕ → ℕ → List Entry
entries_from bytes k zero = []
entries_from bytes k (suc n) = entries_of (block_at bytes k) ++ entries_from bytes (k + 1) n

abbrev pub entries_in : List ℕ → List Entry
entries_in bytes = entries_from bytes 0 (blocks_in (length bytes))
