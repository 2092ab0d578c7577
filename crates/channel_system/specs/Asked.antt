-- What the theorems on the answers of a system's steps speak of.
use Rattle.std.specs.Prelude.{ℕ, ◌+◌, ◌/◌, ◌<◌, ◌≤◌, ◌≡◌, List, ◌⊎◌, length, get_or, ⊤}
use Rattle.graph_tables.specs.Sizes.{word32}
use Rattle.graph_tables.specs.Answers.{Answer, answer_number}
use Rattle.queues.specs.Layout.{slot_room}
use Rattle.queues.specs.Queues.{queue_of, slots_for}
use Rattle.system_tables.specs.declared.ids.ChannelCapacity.{ChannelCapacity}
use Rattle.system_tables.specs.declared.ids.ChannelCapacity.TheVariants.{Bounded, Unbounded, Sink}
use Rattle.system_tables.specs.declared.ids.Message.{Message}
use Rattle.system_tables.specs.declared.ids.Message.TheVariants.{Send, Receive, ProbeEmptyQueue, ProbeFullQueue}
use Rattle.system_tables.specs.Words.{graph_count, width_of, capacity_of}
use Rattle.system_state.specs.Words.{queue_part}
use Rattle.channel_system.specs.Steps.{Moved}

-- ---- answers
-- it is answered with this number
abbrev pub Answers : ℕ → Answer ⊤ → Type 0
Answers n d = answer_number d ≡ n

-- what a step answers
abbrev pub answer_of : Moved → Answer ⊤
answer_of m = m.told.answer

-- ---- before the channel and the graph are asked
-- graph g is there, the action is one of its own, and so is each post
pub record Asked (t : List ℕ) (g o : ℕ) (posts : List ℕ) : Type 0 where
  pub graph : g < graph_count t
  pub own : o ≡ g
  pub each : (i : ℕ) → i < length posts → get_or posts i 0 / word32 ≡ g

-- some post is of another graph
pub record Foreign (g : ℕ) (posts : List ℕ) : Type 0 where
  pub post : ℕ
  pub handed : post < length posts
  pub other : get_or posts post 0 / word32 ≡ g → ⊥

-- ---- a channel
-- how many values channel q has stored
abbrev pub stored_in : List ℕ → ℕ → ℕ
stored_in s q = length (queue_of (queue_part s q))

-- so many values reach the bound
pub record Reached (stored : ℕ) (c : ChannelCapacity) : Type 0 where
  pub bound : ℕ
  pub bounded : c ≡ Bounded bound
  pub reached : bound ≤ stored

-- they do not reach it
pub record Below (stored : ℕ) (c : ChannelCapacity) : Type 0 where
  pub bound : ℕ
  pub bounded : c ≡ Bounded bound
  pub below : stored < bound

-- there is no bound, and no room for a message more
pub record Crowded (stored width : ℕ) (c : ChannelCapacity) : Type 0 where
  pub unbounded : c ≡ Unbounded
  pub over : slot_room < stored + slots_for width

-- there is no bound, and room for a message more
pub record Roomy (stored width : ℕ) (c : ChannelCapacity) : Type 0 where
  pub unbounded : c ≡ Unbounded
  pub room : stored + slots_for width ≤ slot_room

-- more values are stored than the bound
pub record Over (stored : ℕ) (c : ChannelCapacity) : Type 0 where
  pub bound : ℕ
  pub bounded : c ≡ Bounded bound
  pub over : bound < stored

-- the capacity is 0
abbrev pub Handshake : ChannelCapacity → Type 0
Handshake c = c ≡ Bounded 0

-- a sink, or a queue whose bound is not reached: not full
abbrev pub NotFull : ℕ → ChannelCapacity → Type 0
NotFull stored c = (c ≡ Sink) ⊎ Below stored c

-- a message that looks at a queue and leaves it
abbrev pub Probe : Message → Type 0
Probe m = (m ≡ ProbeEmptyQueue) ⊎ (m ≡ ProbeFullQueue)

-- a channel takes a message: a send into a queue below its bound, into one without a bound that has room, or into a sink; a receive where
-- something is stored; a probe of an empty queue where nothing is, of a full one where the bound is reached, neither at capacity 0
abbrev pub Takes : Message → ℕ → ℕ → ChannelCapacity → Type 0
Takes Send stored width c = Below stored c ⊎ (Roomy stored width c ⊎ (c ≡ Sink))
Takes Receive stored width c = 0 < stored
Takes ProbeEmptyQueue stored width c = (Handshake c → ⊥) × (stored ≡ 0)
Takes ProbeFullQueue stored width c = (Handshake c → ⊥) × Reached stored c

-- channel q takes a message, with what it has stored
abbrev pub ChannelTakes : List ℕ → List ℕ → ℕ → Message → Type 0
ChannelTakes t s q m = Takes m (stored_in s q) (width_of t q) (capacity_of t q)

-- the listing has a message: a send below the bound, or where there is none; a receive where something is stored, but not from a sink; a
-- probe of an empty queue where nothing is stored, or of a sink; a probe of a full one where as many values are stored as the bound
abbrev pub Lists : Message → ℕ → ChannelCapacity → Type 0
Lists Send stored c = Below stored c ⊎ ((c ≡ Unbounded) ⊎ (c ≡ Sink))
Lists Receive stored c = (c ≡ Sink → ⊥) × (0 < stored)
Lists ProbeEmptyQueue stored c = (c ≡ Sink) ⊎ (stored ≡ 0)
Lists ProbeFullQueue stored c = c ≡ Bounded stored

-- one of the numbers that a channel refuses with
pub record ByChannel (n : ℕ) : Type 0 where
  pub low : 20 ≤ n
  pub high : n ≤ 27
  pub other : n ≡ 26 → ⊥
