-- The words of a system, by name, as they stand in its table.
use Rattle.std.specs.Prelude.{ℕ, ◌+◌, ◌*◌, ◌/◌, ◌%◌, cond, List, ◌++◌, ◌≡◌, eqb, length, get_or, set, take, drop}
use Rattle.graph_tables.specs.Layout.{table_words}
use Rattle.system_tables.specs.Sizes.{bounded_sort, unbounded_sort, sink_sort}
use Rattle.system_tables.specs.Sizes.{no_communication, send_message, receive_message, empty_message, full_message}
use Rattle.system_tables.specs.Layout.{system_words, graphs_cell, channels_cell, channel_row, channel_kind_cell, sort_cell, capacity_cell}
use Rattle.system_tables.specs.Layout.{communication_cell, graph_start, communication_span}
use Rattle.system_tables.specs.declared.ids.ChannelCapacity.{ChannelCapacity}
use Rattle.system_tables.specs.declared.ids.ChannelCapacity.TheVariants.{Bounded, Unbounded, Sink}
use Rattle.system_tables.specs.declared.ids.Message.{Message}
use Rattle.system_tables.specs.declared.ids.Message.TheVariants.{Send, Receive, ProbeEmptyQueue, ProbeFullQueue}
use Rattle.system_tables.specs.declared.ids.Communication.{Communication}
use Rattle.system_tables.specs.declared.ids.Communication.TheVariants.{Plain, On}

-- a table has this many words
abbrev pub SystemWords : List ℕ → Type 0
SystemWords t = length t ≡ system_words

-- ---- counts
abbrev pub graph_count : List ℕ → ℕ
graph_count t = get_or t graphs_cell 0

abbrev pub channel_count : List ℕ → ℕ
channel_count t = get_or t channels_cell 0

-- ---- channels: how many values a message of channel q has, and the kind of value e
abbrev pub width_of : List ℕ → ℕ → ℕ
width_of t q = get_or t (channel_row q) 0

abbrev pub channel_kind : List ℕ → ℕ → ℕ → ℕ
channel_kind t q e = get_or t (channel_kind_cell q e) 0

-- all kinds of its values, in order
abbrev pub channel_kinds : List ℕ → ℕ → List ℕ
channel_kinds t q = take (width_of t q) (drop (channel_kind_cell q 0) t)

-- the sort of its capacity, and the capacity of one that is bounded
abbrev pub sort_of : List ℕ → ℕ → ℕ
sort_of t q = get_or t (sort_cell q) 0

abbrev pub bound_of : List ℕ → ℕ → ℕ
bound_of t q = get_or t (capacity_cell q) 0

abbrev pub capacity_as : ℕ → ℕ → ChannelCapacity
capacity_as sort bound = cond (eqb sort bounded_sort) (Bounded bound) (cond (eqb sort unbounded_sort) Unbounded Sink)

abbrev pub capacity_of : List ℕ → ℕ → ChannelCapacity
capacity_of t q = capacity_as (sort_of t q) (bound_of t q)

-- the table with this capacity for channel q; a bound is written where there is one
abbrev pub capacity_set : List ℕ → ℕ → ChannelCapacity → List ℕ
capacity_set t q (Bounded n) = set (set t (sort_cell q) bounded_sort) (capacity_cell q) n
capacity_set t q Unbounded = set t (sort_cell q) unbounded_sort
capacity_set t q Sink = set t (sort_cell q) sink_sort

-- ---- graphs: the words of graph g alone, as the graph's own calls take them
abbrev pub graph_part : List ℕ → ℕ → List ℕ
graph_part t g = take table_words (drop (graph_start g) t)

-- the table with these for the words of graph g
abbrev pub with_graph : List ℕ → ℕ → List ℕ → List ℕ
with_graph t g new = take (graph_start g) t ++ (new ++ drop table_words (drop (graph_start g) t))

-- ---- the communication of action a of graph g: none, or a kind and a channel
abbrev pub communication_at : List ℕ → ℕ → ℕ → ℕ
communication_at t g a = get_or t (communication_cell g a) 0

abbrev pub message_part : ℕ → ℕ
message_part w = w % communication_span

abbrev pub channel_part : ℕ → ℕ
channel_part w = w / communication_span

abbrev pub message_of : ℕ → Message
message_of k =
    cond (eqb k send_message) Send
    (cond (eqb k receive_message) Receive
    (cond (eqb k empty_message) ProbeEmptyQueue ProbeFullQueue))

abbrev pub communication_in : ℕ → Communication
communication_in w = cond (eqb w no_communication) Plain (On (message_of (message_part w)) (record { 0 = channel_part w }))

abbrev pub communication_of : List ℕ → ℕ → ℕ → Communication
communication_of t g a = communication_in (communication_at t g a)

-- the word of a communication
abbrev pub message_word : Message → ℕ
message_word Send = send_message
message_word Receive = receive_message
message_word ProbeEmptyQueue = empty_message
message_word ProbeFullQueue = full_message

abbrev pub communication_word : Communication → ℕ
communication_word Plain = no_communication
communication_word (On m q) = message_word m + communication_span * q.0
