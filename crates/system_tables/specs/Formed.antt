-- A system's table is well formed: no count above its size, no number that names nothing, nothing that building would refuse
-- (docs/RULES.md, 'Bad state' and 'Systems'). What stands in unused words is not looked at.
use Rattle.std.specs.Prelude.{ℕ, Bool, cond, ◌||◌, List, eqb, leb, ltb, length}
use Rattle.laws.specs.Below.{◌and◌, all_below}
use Rattle.graph_tables.specs.Sizes.{message_room, word32, no_kind}
use Rattle.graph_tables.specs.Words.{action_count}
use Rattle.graph_tables.specs.Formed.{well_formed}
use Rattle.graph_tables.specs.Messages.{is_plain, is_send, is_receive, message_count, value_kind}
use Rattle.system_tables.specs.Sizes.{graph_room, channel_room, bounded_sort, sink_sort}
use Rattle.system_tables.specs.Sizes.{no_communication, send_message, receive_message, empty_message, full_message}
use Rattle.system_tables.specs.Layout.{system_words}
use Rattle.system_tables.specs.Words.{graph_count, channel_count, width_of, channel_kind, sort_of, bound_of, capacity_of}
use Rattle.system_tables.specs.Words.{graph_part, communication_at, message_part, channel_part}
use Rattle.system_tables.specs.Ceiling.{has_room}

-- ---- counts: no more graphs or channels than there is room for
unfoldable pub system_counted : List ℕ → Bool
system_counted t = leb (graph_count t) graph_room and leb (channel_count t) channel_room

-- ---- graphs: each as a graph on its own
unfoldable pub graph_formed : List ℕ → Bool → ℕ → Bool
graph_formed t building g = well_formed (graph_part t g) building

-- ---- channels
-- value e of a message has a kind
unfoldable pub channel_kind_formed : List ℕ → ℕ → ℕ → Bool
channel_kind_formed t q e = ltb (channel_kind t q e) no_kind

-- the capacity is of one of the three sorts, and a bound has 32 bits
unfoldable pub capacity_formed : List ℕ → ℕ → Bool
capacity_formed t q = cond (eqb (sort_of t q) bounded_sort) (ltb (bound_of t q) word32) (leb (sort_of t q) sink_sort)

-- few values, each of a kind; a capacity; room for what it stores, else 31
unfoldable pub channel_formed : List ℕ → ℕ → Bool
channel_formed t q =
    leb (width_of t q) message_room and all_below (width_of t q) (channel_kind_formed t q) and capacity_formed t q and
    has_room (width_of t q) (capacity_of t q)

-- ---- communications: G is the words of the action's own graph
-- value e is of the kind that channel q has there
unfoldable pub value_fits : List ℕ → ℕ → List ℕ → ℕ → ℕ → Bool
value_fits t q G a e = eqb (value_kind G a e) (channel_kind t q e)

-- as many values as the channel is wide, and of its kinds
unfoldable pub message_fits : List ℕ → ℕ → List ℕ → ℕ → Bool
message_fits t q G a = eqb (message_count G a) (width_of t q) and all_below (width_of t q) (value_fits t q G a)

-- a send of the channel's values
unfoldable pub send_fits : List ℕ → ℕ → List ℕ → ℕ → Bool
send_fits t q G a = is_send G a and message_fits t q G a

-- a receive of the channel's values
unfoldable pub receive_fits : List ℕ → ℕ → List ℕ → ℕ → Bool
receive_fits t q G a = is_receive G a and message_fits t q G a

-- a kind that is a probe, of an empty queue or of a full one
unfoldable pub is_probe : ℕ → Bool
is_probe k = eqb k empty_message || eqb k full_message

-- a probe is, in the graph, a send of no values
unfoldable pub probe_formed : ℕ → List ℕ → ℕ → Bool
probe_formed k G a = is_probe k and is_send G a and eqb (message_count G a) 0

-- an action that is of kind k on channel q
unfoldable pub message_formed : List ℕ → ℕ → ℕ → List ℕ → ℕ → Bool
message_formed t k q G a =
    cond (eqb k send_message) (send_fits t q G a)
    (cond (eqb k receive_message) (receive_fits t q G a)
    (probe_formed k G a))

-- the communication w of an action: none exactly for a plain one, else of a known channel
unfoldable pub communication_fits : List ℕ → ℕ → List ℕ → ℕ → Bool
communication_fits t w G a =
    cond (eqb w no_communication) (is_plain G a)
    (ltb (channel_part w) (channel_count t) and message_formed t (message_part w) (channel_part w) G a)

-- the communication of action a of graph g, held to that action
unfoldable pub communication_formed : List ℕ → ℕ → ℕ → Bool
communication_formed t g a = communication_fits t (communication_at t g a) (graph_part t g) a

-- and of every action that graph g has
unfoldable pub communications_formed : List ℕ → ℕ → Bool
communications_formed t g = all_below (action_count (graph_part t g)) (communication_formed t g)

-- ---- every graph, every channel, and the communications of every graph
unfoldable pub members_formed : List ℕ → Bool → Bool
members_formed t building =
    all_below (graph_count t) (graph_formed t building) and all_below (channel_count t) (channel_formed t) and
    all_below (graph_count t) (communications_formed t)

-- ---- the whole table; while a system is being built its graphs may lack a process
unfoldable pub system_formed : List ℕ → Bool → Bool
system_formed t building = eqb (length t) system_words and system_counted t and members_formed t building
