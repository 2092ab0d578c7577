-- Writing a block on lent bytes: records one after the other, then the rest (docs/RULES.md, 'Recordings').
use Rattle.std.specs.Prelude.{ℕ, ◌+◌, ◌-◌, ◌*◌, Bool, true, false, List, [], ◌∷◌, ◌++◌, eqb, leb, ltb, length, replicate}
use Rattle.std.proofs.lemmas.List.Edits.{sets}
use Rattle.laws.specs.Ladder.{unless}
use Rattle.recordings.specs.Layout.{block_bytes, place_bytes, head_zero_bytes, record_room, record_bytes, record_start, sum_byte, sum_bytes, post_room}
use Rattle.recordings.specs.Layout.{amount_bytes, word_bytes, tail_bytes}
use Rattle.recordings.specs.Numbers.{bytes_of}
use Rattle.recordings.specs.Records.{Entry, step, wait}
use Rattle.recordings.specs.Blocks.{sum_of}
use Rattle.recordings.specs.Writing.{record_of}

-- whether it was written, and the bytes then
pub record Put : Type 0 where
  pub answer : Bool
  pub block : List ℕ

abbrev pub refused : List ℕ → Put
refused b = record { answer = false; block = b }

-- ---- a record
-- its parts: up to the posts, and from the word on
abbrev pub front_fields : ℕ → ℕ → ℕ → ℕ → List ℕ
front_fields kind graph count amount = kind ∷ graph ∷ count ∷ 0 ∷ bytes_of amount_bytes amount

abbrev pub last_fields : ℕ → ℕ → List ℕ
last_fields word answer = bytes_of word_bytes word ++ (answer ∷ replicate tail_bytes 0)

abbrev pub few_posts : Entry → Bool
few_posts (step graph action posts word answer) = leb (length posts) post_room
few_posts (wait delta answer) = true

abbrev pub with_record : List ℕ → ℕ → Entry → List ℕ
with_record b i e = sets b (record_start i) (record_of e)

-- record i, if the bytes are a block's, there is a record i, and its posts have room
unfoldable pub put_of : List ℕ → ℕ → Entry → Put
put_of b i e =
    unless (eqb (length b) block_bytes) (refused b)
    (unless (ltb i record_room) (refused b)
    (unless (few_posts e) (refused b)
    (record { answer = true; block = with_record b i e })))

-- ---- the rest
abbrev pub with_head : List ℕ → ℕ → ℕ → List ℕ
with_head b place count = sets b 0 (bytes_of place_bytes place ++ (count ∷ replicate head_zero_bytes 0))

abbrev pub without_past : List ℕ → ℕ → List ℕ
without_past b count = sets b (record_start count) (replicate (record_bytes * (record_room - count)) 0)

abbrev pub with_sum : List ℕ → List ℕ
with_sum b = sets b sum_byte (bytes_of sum_bytes (sum_of b))

abbrev pub sealed : List ℕ → ℕ → ℕ → List ℕ
sealed b place count = with_sum (without_past (with_head b place count) count)

-- place, count, zeros and the sum, if the bytes are a block's and have room for so many records
unfoldable pub seal_of : List ℕ → ℕ → ℕ → Put
seal_of b place count =
    unless (eqb (length b) block_bytes) (refused b)
    (unless (leb count record_room) (refused b)
    (record { answer = true; block = sealed b place count }))

-- ---- all of it
-- records put one after the other, from record i on
unfoldable pub put_all : List ℕ → ℕ → List Entry → List ℕ
put_all b i [] = b
put_all b i (e ∷ es) = put_all (put_of b i e).block (i + 1) es
