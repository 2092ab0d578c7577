-- A queue as a list of values, and what calls make of its words (docs/RULES.md, 'Systems').
use Rattle.std.specs.Prelude.{◌≡◌, ℕ, zero, suc, ◌+◌, ◌-◌, ◌%◌, ◌<◌, ◌≤◌, List, [], ◌∷◌, ◌++◌, take, replicate, slice_index, slice_index_or, slice_set}
use Rattle.grammar.specs.Evaluation.{blank}
use Rattle.grammar.specs.Slots.{val_of, kind_in, payload_in, FitVal}
use Rattle.grammar.specs.declared.values.Val.{Val}
use Rattle.grammar.specs.declared.values.Slot.{Slot}
use Rattle.graph_tables.specs.Sizes.{message_room, word32}
use Rattle.graph_tables.specs.declared.handed.Message.{Message}
use Rattle.queues.specs.Layout.{slot_room, QueueWords, read_at, write_at, read_of, write_of, kind_place, payload_place}

-- ---- counts
-- n counts after count c: they run on past 32 bits and wrap
abbrev pub later : ℕ → ℕ → ℕ
later c n = (c + n) % word32

-- how many values are stored: the wrapped difference of the counts
unfoldable pub stored_of : List ℕ → ℕ
stored_of q = (write_of q + (word32 - read_of q)) % word32

-- the count of stored value i
abbrev pub count_at : List ℕ → ℕ → ℕ
count_at q i = later (read_of q) i

-- ---- the queue
-- the two words of stored value i
abbrev pub kind_word_at : List ℕ → ℕ → ℕ
kind_word_at q i = slice_index q (kind_place (count_at q i))

abbrev pub payload_word_at : List ℕ → ℕ → ℕ
payload_word_at q i = slice_index q (payload_place (count_at q i))

-- the value that they are
abbrev pub slot_at : List ℕ → ℕ → Slot
slot_at q i = record { value = val_of (kind_word_at q i) (payload_word_at q i) }

-- the values f 0, .., f (n - 1)
unfoldable pub list_of : (ℕ → Slot) → ℕ → List Slot
list_of f zero = []
list_of f (suc n) = list_of f n ++ (f n ∷ [])

-- the stored values, from the oldest to the newest
unfoldable pub queue_of : List ℕ → List Slot
queue_of q = list_of (slot_at q) (stored_of q)

-- ---- facts
-- the words are so many, and each count has 32 bits
pub record Counted (q : List ℕ) : Type 0 where
  pub words : QueueWords q
  pub read : read_of q < word32
  pub write : write_of q < word32

-- There is room for what is stored, and each stored value has the words of a value. What stands at free places is not said.
pub record QueueFormed (q : List ℕ) : Type 0 where
  pub counted : Counted q
  pub few : stored_of q ≤ slot_room
  pub kind : (i : ℕ) → i < stored_of q → kind_word_at q i ≡ kind_in (slice_index_or (queue_of q) i blank).value
  pub payload : (i : ℕ) → i < stored_of q → payload_word_at q i ≡ payload_in (slice_index_or (queue_of q) i blank).value

-- two queues have the same used words: the counts, and those of every stored value
pub record SameUsed (q r : List ℕ) : Type 0 where
  pub read : read_of q ≡ read_of r
  pub write : write_of q ≡ write_of r
  pub kind : (i : ℕ) → i < stored_of q → kind_word_at q i ≡ kind_word_at r i
  pub payload : (i : ℕ) → i < stored_of q → payload_word_at q i ≡ payload_word_at r i

-- ---- what calls leave
-- one value, written behind the newest
unfoldable pub pushed : List ℕ → Val → List ℕ
pushed q x =
    slice_set (slice_set (slice_set q (kind_place (write_of q)) (kind_in x)) (payload_place (write_of q)) (payload_in x)) write_at (later (write_of q) 1)

-- n values received: the read count moves, and nothing else
unfoldable pub dropped : List ℕ → ℕ → List ℕ
dropped q n = slice_set q read_at (later (read_of q) n)

-- a fresh queue: the counts are 0, and nothing else is written
unfoldable pub emptied : List ℕ → List ℕ
emptied q = slice_set (slice_set q read_at 0) write_at 0

-- ---- messages
-- how many slots of the ring a message of a width takes
unfoldable pub slots_for : ℕ → ℕ
slots_for w = w

-- the values of a message, one for each of its slots
abbrev pub values_of : Message → List Slot
values_of m = list_of (λ k. slice_index_or m.values k blank) (slots_for m.count)

-- the first n values of a list written, in order
unfoldable pub pushed_below : List ℕ → List Slot → ℕ → List ℕ
pushed_below q values zero = q
pushed_below q values (suc n) = pushed (pushed_below q values n) (slice_index_or values n blank).value

abbrev pub pushed_all : List ℕ → Message → List ℕ
pushed_all q m = pushed_below q m.values (slots_for m.count)

-- the n first values of a list, and blanks behind them
abbrev pub filled_with : List Slot → ℕ → List Slot
filled_with values n = take n values ++ replicate (message_room - n) blank

-- the oldest message of a width
abbrev pub first_of : List ℕ → ℕ → Message
first_of q w = record { values = filled_with (queue_of q) (slots_for w); count = w }

-- the first n values are such as a program holds
abbrev pub FitBelow : List Slot → ℕ → Type 0
FitBelow values n = (k : ℕ) → k < n → FitVal (slice_index_or values k blank).value

-- so are all of a message
abbrev pub FitMessage : Message → Type 0
FitMessage m = FitBelow m.values (slots_for m.count)
