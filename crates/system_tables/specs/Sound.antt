-- What a system's table that is well formed says of its parts, as facts. The inner functions require them.
use Rattle.std.specs.Prelude.{ℕ, ◌≤◌, ◌<◌, ◌≡◌, true, List}
use Rattle.laws.specs.Below.{all_below}
use Rattle.graph_tables.specs.Sizes.{message_room, word32, no_kind}
use Rattle.graph_tables.specs.Words.{action_count}
use Rattle.graph_tables.specs.Sound.{Sound}
use Rattle.graph_tables.specs.Messages.{is_plain, is_send, is_receive, message_count, value_kind}
use Rattle.queues.specs.Layout.{slot_room}
use Rattle.system_tables.specs.Sizes.{graph_room, channel_room, bounded_sort, sink_sort}
use Rattle.system_tables.specs.Sizes.{no_communication, send_message, receive_message, empty_message, full_message}
use Rattle.system_tables.specs.Words.{SystemWords, graph_count, channel_count, width_of, channel_kind, sort_of, bound_of, capacity_of}
use Rattle.system_tables.specs.Words.{graph_part, communication_at, message_part, channel_part}
use Rattle.system_tables.specs.Ceiling.{ceiling}
use Rattle.system_tables.specs.Formed.{channel_formed}

-- ---- what the test of a table has found when it comes to the communications
abbrev pub ChannelsFormed : List ℕ → Type 0
ChannelsFormed t = SystemWords t × (channel_count t ≤ channel_room) × (all_below (channel_count t) (channel_formed t) ≡ true)

abbrev pub ChannelKnown : List ℕ → ℕ → Type 0
ChannelKnown t q = SystemWords t × (q < channel_room) × (width_of t q ≤ message_room)

-- of the graph with the words G
abbrev pub ActionKnown : List ℕ → ℕ → Type 0
ActionKnown G a = Sound G × (a < action_count G)

abbrev pub ValueKnown : List ℕ → ℕ → List ℕ → ℕ → ℕ → Type 0
ValueKnown t q G a e = ActionKnown G a × SystemWords t × (q < channel_room) × (e < message_room) × (e < message_count G a)

-- ---- the facts of a whole table
-- the bound of a capacity that has one fits
abbrev pub BoundFits : List ℕ → ℕ → Type 0
BoundFits t q = sort_of t q ≡ bounded_sort → bound_of t q < word32

-- channel q
pub record ChannelSound (t : List ℕ) (q : ℕ) : Type 0 where
  -- a message has few values
  pub width : width_of t q ≤ message_room
  -- each is of a kind
  pub kind : (e : ℕ) → e < width_of t q → channel_kind t q e < no_kind
  -- the capacity is of one of three sorts
  pub sort : sort_of t q ≤ sink_sort
  -- a bound fits
  pub bound : BoundFits t q
  -- there is room for what is stored
  pub room : ceiling (width_of t q) (capacity_of t q) ≤ slot_room

-- the message of action a, of the graph with the words G, is one of channel q
pub record MessageSound (t : List ℕ) (q : ℕ) (G : List ℕ) (a : ℕ) : Type 0 where
  -- as many values as the channel is wide
  pub count : message_count G a ≡ width_of t q
  -- of its kinds
  pub kind : (e : ℕ) → e < width_of t q → value_kind G a e ≡ channel_kind t q e

-- a probe is a send of no values
pub record ProbeSound (G : List ℕ) (a : ℕ) : Type 0 where
  pub send : is_send G a ≡ true
  pub none : message_count G a ≡ 0

-- the communication w of action a, of the graph with the words G
pub record CommunicationSound (t : List ℕ) (w : ℕ) (G : List ℕ) (a : ℕ) : Type 0 where
  -- none is a plain action's
  pub plain : w ≡ no_communication → is_plain G a ≡ true
  -- any other is of a known channel, and of one of the four kinds
  pub channel : (w ≡ no_communication → ⊥) → channel_part w < channel_count t
  pub low : (w ≡ no_communication → ⊥) → send_message ≤ message_part w
  pub high : (w ≡ no_communication → ⊥) → message_part w ≤ full_message
  -- and what its kind says
  pub send : message_part w ≡ send_message → (is_send G a ≡ true) × MessageSound t (channel_part w) G a
  pub receive : message_part w ≡ receive_message → (is_receive G a ≡ true) × MessageSound t (channel_part w) G a
  pub empty : message_part w ≡ empty_message → ProbeSound G a
  pub full : message_part w ≡ full_message → ProbeSound G a

-- the whole table
pub record SystemSound (t : List ℕ) : Type 0 where
  -- it has its number of words
  pub words : SystemWords t
  -- no count is above its size
  pub graphs : graph_count t ≤ graph_room
  pub channels : channel_count t ≤ channel_room
  -- each part below its count is sound
  pub graph : (g : ℕ) → g < graph_count t → Sound (graph_part t g)
  pub channel : (q : ℕ) → q < channel_count t → ChannelSound t q
  pub communication : (g a : ℕ) → g < graph_count t → a < action_count (graph_part t g)
      → CommunicationSound t (communication_at t g a) (graph_part t g) a
