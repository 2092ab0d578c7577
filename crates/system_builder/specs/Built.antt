-- A well-formed system as the chain of calls that builds it, from an empty one (docs/RULES.md, 'Systems'): its channels, then each of its
-- graphs by the calls that build that graph alone, made on it. What is stored is handed back.
use Rattle.std.specs.Prelude.{ℕ, zero, suc, ◌+◌, ◌≡◌, List, [], ◌∷◌, ◌++◌}
use Rattle.graph_builder.specs.Chains as Own
use Rattle.graph_builder.specs.Built.{calls_of as ownCallsOf}
use Rattle.system_tables.specs.Words.{graph_count, channel_count, capacity_of, graph_part, communication_of}
use Rattle.system_tables.specs.declared.ids.Channel.{Channel}
use Rattle.system_tables.specs.declared.ids.Message.TheVariants.{Send, Receive, ProbeEmptyQueue, ProbeFullQueue}
use Rattle.system_tables.specs.declared.ids.Communication.{Communication}
use Rattle.system_tables.specs.declared.ids.Communication.TheVariants.{Plain, On}
use Rattle.system_builder.specs.Systems.{kinds_in}
use Rattle.system_builder.specs.Chains.{OnGraph, new_var, new_clock, new_action, new_process, add_reset, add_effect, new_timed_location}
use Rattle.system_builder.specs.Chains.{new_initial_location, add_transition, new_send, new_receive, new_probe}
use Rattle.system_builder.specs.Chains.{Call, new_graph, new_channel, call_on_graph, after, answer_of}

-- ---- chains
-- the calls of every number below n, in order
unfoldable pub each_of : (ℕ → List Call) → ℕ → List Call
each_of f zero = []
each_of f (suc n) = each_of f n ++ f n

-- every call is accepted in its turn
abbrev pub AllAccepted : List ℕ → List Call → Type 0
AllAccepted t [] = Unit {0}
AllAccepted t (c ∷ calls) = (answer_of t c ≡ 0) × AllAccepted (after t c) calls

-- ---- a channel: its kinds and its capacity
abbrev pub channel_calls : List ℕ → ℕ → List Call
channel_calls t q = new_channel (kinds_in t q) (capacity_of t q) ∷ []

-- ---- a call of a graph's own, made on it in a system
-- the channel of a communication; a plain action has none, and none is asked for
abbrev pub channel_of : Communication → Channel
channel_of Plain = record { 0 = 0 }
channel_of (On m q) = q

-- what is a send to the graph is a send here, or a probe; no send of a well-formed system is told otherwise
abbrev pub send_on : Communication → (ℕ → List ℕ) → ℕ → OnGraph
send_on Plain m count = new_send (channel_of Plain) m count
send_on (On Send q) m count = new_send q m count
send_on (On Receive q) m count = new_send q m count
send_on (On ProbeEmptyQueue q) m count = new_probe ProbeEmptyQueue q
send_on (On ProbeFullQueue q) m count = new_probe ProbeFullQueue q

-- the action that is added, if one is, has communication c
abbrev pub made_on : Communication → Own.Call → OnGraph
made_on c (Own.new_var v) = new_var v
made_on c Own.new_clock = new_clock
made_on c Own.new_action = new_action
made_on c (Own.new_process l) = new_process l
made_on c (Own.add_reset a clock) = add_reset a clock
made_on c (Own.add_effect a v ws) = add_effect a v ws
made_on c (Own.new_send m count) = send_on c m count
made_on c (Own.new_receive v) = new_receive (channel_of c) v
made_on c (Own.new_timed_location l) = new_timed_location l
made_on c (Own.new_initial_location l) = new_initial_location l
made_on c (Own.add_transition pre a post guarded ws l) = add_transition pre a post guarded ws l

-- how many actions there are after a call, where there were n
abbrev pub actions_after : ℕ → Own.Call → ℕ
actions_after n (Own.new_var v) = n
actions_after n Own.new_clock = n
actions_after n Own.new_action = n + 1
actions_after n (Own.new_process l) = n
actions_after n (Own.add_reset a clock) = n
actions_after n (Own.add_effect a v ws) = n
actions_after n (Own.new_send m count) = n + 1
actions_after n (Own.new_receive v) = n + 1
actions_after n (Own.new_timed_location l) = n
actions_after n (Own.new_initial_location l) = n
actions_after n (Own.add_transition pre a post guarded ws l) = n

-- calls of graph g's own, made on it: actions have the communications that they have in t, from action n on
abbrev pub all_on : List ℕ → ℕ → ℕ → List Own.Call → List Call
all_on t g n [] = []
all_on t g n (c ∷ calls) = call_on_graph g (made_on (communication_of t g n) c) ∷ all_on t g (actions_after n c) calls

-- ---- a graph: it is added, then built
abbrev pub graph_calls : List ℕ → ℕ → List Call
graph_calls t g = new_graph ∷ all_on t g 0 (ownCallsOf (graph_part t g))

-- ---- the whole system
unfoldable pub calls_of : List ℕ → List Call
calls_of t = each_of (channel_calls t) (channel_count t) ++ each_of (graph_calls t) (graph_count t)
