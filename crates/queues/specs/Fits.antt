-- Whether a queue is one of a channel: of its kinds, in whole messages, within its ceiling (docs/RULES.md, 'Bad state', 'Systems').
use Rattle.std.specs.Prelude.{◌≡◌, ℕ, ◌%◌, ◌<◌, ◌≤◌, Bool, List, length, ◌==◌, nat_eq, nat_le, nat_lt, slice_index, slice_index_or}
use Rattle.laws.specs.Below.{◌and◌, all_below}
use Rattle.grammar.specs.Evaluation.{blank}
use Rattle.grammar.specs.Slots.{kind_in, is_value}
use Rattle.graph_tables.specs.Sizes.{word32}
use Rattle.graph_tables.specs.declared.handed.Message.{Message}
use Rattle.queues.specs.Layout.{read_of, write_of}
use Rattle.queues.specs.Queues.{stored_of, kind_word_at, payload_word_at, queue_of, QueueFormed, slots_for}

-- A channel has a kind for each value of a message: as many kinds as it is wide.

-- so many slots are whole messages; at width 0 none are
unfoldable pub whole_messages : ℕ → ℕ → Bool
whole_messages w n = n % slots_for w == 0

-- the kind of stored value i: the messages stand one behind the other
abbrev pub kind_for : List ℕ → ℕ → ℕ
kind_for kinds i = slice_index kinds (i % slots_for (length kinds))

-- stored value i is one, of its kind
unfoldable pub slot_fits : List ℕ → List ℕ → ℕ → Bool
slot_fits q kinds i = nat_eq (kind_word_at q i) (kind_for kinds i) and is_value (kind_word_at q i) (payload_word_at q i)

-- each count has 32 bits
unfoldable pub counts_fit : List ℕ → Bool
counts_fit q = nat_lt (read_of q) word32 and nat_lt (write_of q) word32

-- The whole test. A sink, and a queue of width 0, has the ceiling 0: it is empty.
unfoldable pub queue_fits : List ℕ → List ℕ → ℕ → Bool
queue_fits q kinds ceiling =
    counts_fit q and nat_le (stored_of q) ceiling and whole_messages (length kinds) (stored_of q) and all_below (stored_of q) (slot_fits q kinds)

-- ---- the same as facts of the list
pub record QueueKept (q kinds : List ℕ) (ceiling : ℕ) : Type 0 where
  pub formed : QueueFormed q
  pub low : stored_of q ≤ ceiling
  pub whole : stored_of q % slots_for (length kinds) ≡ 0
  pub kind : (i : ℕ) → i < stored_of q → kind_in (slice_index_or (queue_of q) i blank).value ≡ kind_for kinds i

-- a message of the channel: of its width, and each value of its kind
pub record MessageKept (kinds : List ℕ) (m : Message) : Type 0 where
  pub count : m.count ≡ length kinds
  pub kind : (k : ℕ) → k < slots_for m.count → kind_in (slice_index_or m.values k blank).value ≡ slice_index kinds k
