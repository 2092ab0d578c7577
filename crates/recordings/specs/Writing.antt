-- The block that is written of records at a place (docs/RULES.md, 'Recordings').
use Rattle.std.specs.Prelude.{ℕ, zero, suc, ◌+◌, ◌^◌, ◌≤◌, ◌<◌, List, [], ◌∷◌, ◌++◌, length, replicate}
use Rattle.recordings.specs.Layout.{place_bytes, head_zero_bytes, record_room, record_bytes, sum_bytes, amount_bytes, post_bytes, post_room}
use Rattle.recordings.specs.Layout.{posts_bytes, word_bytes, tail_bytes, step_kind, wait_kind}
use Rattle.recordings.specs.Numbers.{byte, bytes_of}
use Rattle.recordings.specs.Records.{Entry, step, wait}
use Rattle.recordings.specs.Blocks.{sum_of}

-- ---- rows of equal parts
-- part i of a row of parts of w bytes: what is written of the i-th of the list, and zeros past its end
unfoldable pub part_of : {A : Type 0} → (A → List ℕ) → ℕ → List A → ℕ → List ℕ
part_of f w [] i = replicate w 0
part_of f w (x ∷ xs) zero = f x
part_of f w (x ∷ xs) (suc i) = part_of f w xs i

-- the parts i, i + 1, .., so many of them, one after the other
unfoldable pub joined : (ℕ → List ℕ) → ℕ → ℕ → List ℕ
joined f i zero = []
joined f i (suc n) = f i ++ joined f (i + 1) n

-- ---- a record
-- kind, graph, number of posts, zero, action or delta, posts, word, answer, zeros
unfoldable pub fields_of : ℕ → ℕ → ℕ → ℕ → List ℕ → ℕ → ℕ → List ℕ
fields_of kind graph count amount posts word answer =
    kind ∷ graph ∷ count ∷ 0 ∷ (bytes_of amount_bytes amount ++ (posts ++ (bytes_of word_bytes word ++ (answer ∷ replicate tail_bytes 0))))

-- four posts, those past the last 0
abbrev pub posts_of : List ℕ → List ℕ
posts_of posts = joined (part_of (bytes_of post_bytes) post_bytes posts) 0 post_room

-- unused fields are 0
unfoldable pub record_of : Entry → List ℕ
record_of (step graph action posts word answer) = fields_of step_kind graph (length posts) action (posts_of posts) word answer
record_of (wait delta answer) = fields_of wait_kind 0 0 delta (replicate posts_bytes 0) 0 answer

-- ---- a block
-- its place, the count of its records, zeros, the records, and zeros for each that there is not
unfoldable pub front_of : ℕ → List Entry → List ℕ
front_of place records =
    bytes_of place_bytes place
    ++ (length records ∷ (replicate head_zero_bytes 0 ++ joined (part_of record_of record_bytes records) 0 record_room))

-- and the sum
unfoldable pub block_of : ℕ → List Entry → List ℕ
block_of place records = front_of place records ++ bytes_of sum_bytes (sum_of (front_of place records))

-- ---- what can be written
unfoldable pub Every : {A : Type 0} → (A → Type 0) → List A → Type 0
Every P [] = Unit {0}
Every P (x ∷ xs) = P x × Every P xs

-- a number of so many bytes
abbrev pub Wide : ℕ → ℕ → Type 0
Wide w n = n < byte ^ w

-- each field within its width, and room for the posts
unfoldable pub Fits : Entry → Type 0
Fits (step graph action posts word answer) =
    (graph < byte)
    × (Wide amount_bytes action)
    × (length posts ≤ post_room)
    × (Every (Wide post_bytes) posts)
    × (Wide word_bytes word)
    × (answer < byte)
Fits (wait delta answer) = (Wide amount_bytes delta) × (answer < byte)
