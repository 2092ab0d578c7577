-- Building calls on a system, whatever they answer.
use Rattle.std.specs.Prelude.{ℕ, ◌<◌, ◌≡◌, Bool, List, [], ◌∷◌}
use Rattle.grammar.specs.Slots.{FitVal}
use Rattle.graph_edits.specs.Edits.{LimitsFit}
use Rattle.grammar.specs.declared.values.Val.{Val}
use Rattle.graph_tables.specs.declared.handed.Limits.{Limits}
use Rattle.graph_tables.specs.declared.handed.Vars.{Vars}
use Rattle.graph_tables.specs.Sizes.{word32}
use Rattle.graph_tables.specs.Answers.{answer_number}
use Rattle.system_tables.specs.declared.ids.Channel.{Channel}
use Rattle.graph_builder.specs.Chains as Own
use Rattle.system_tables.specs.declared.ids.ChannelCapacity.{ChannelCapacity}
use Rattle.system_tables.specs.declared.ids.ChannelCapacity.TheVariants.{Bounded, Unbounded, Sink}
use Rattle.system_tables.specs.declared.ids.Message.{Message}
use Rattle.system_tables.specs.declared.ids.Message.TheVariants.{Send, Receive, ProbeEmptyQueue, ProbeFullQueue}
use Rattle.system_tables.specs.declared.ids.Communication.{Communication}
use Rattle.system_tables.specs.declared.ids.Communication.TheVariants.{Plain, On}
use Rattle.system_builder.specs.declared.handed.Kinds.{Kinds}
use Rattle.system_builder.specs.Systems.{new_graph_of, new_channel_of}
use Rattle.system_builder.specs.Graphs.{new_var_on, new_clock_on, new_action_on, new_process_on, add_reset_on, add_effect_on}
use Rattle.system_builder.specs.Graphs.{new_timed_location_on, new_initial_on, add_transition_on}
use Rattle.system_builder.specs.Messages.{no_values, new_send_on, new_receive_on, new_probe_on}

-- a call on graph g, with what is handed to it
pub data OnGraph : Type 0 where
  new_var : Val → OnGraph
  new_clock : OnGraph
  new_action : OnGraph
  new_process : ℕ → OnGraph
  add_reset : ℕ → ℕ → OnGraph
  add_effect : ℕ → ℕ → List ℕ → OnGraph
  new_timed_location : Limits → OnGraph
  new_initial_location : Limits → OnGraph
  add_transition : ℕ → ℕ → ℕ → Bool → List ℕ → Limits → OnGraph
  new_send : Channel → (ℕ → List ℕ) → ℕ → OnGraph
  new_receive : Channel → Vars → OnGraph
  new_probe : Message → Channel → OnGraph

pub data Call : Type 0 where
  new_graph : Call
  new_channel : Kinds → ChannelCapacity → Call
  call_on_graph : ℕ → OnGraph → Call

-- the table after a call
abbrev pub after_on : List ℕ → ℕ → OnGraph → List ℕ
after_on t g (new_var v) = (new_var_on t g v).table
after_on t g new_clock = (new_clock_on t g).table
after_on t g new_action = (new_action_on t g).table
after_on t g (new_process l) = (new_process_on t g l).table
after_on t g (add_reset a clock) = (add_reset_on t g a clock).table
after_on t g (add_effect a v ws) = (add_effect_on t g a v ws).table
after_on t g (new_timed_location l) = (new_timed_location_on t g l).table
after_on t g (new_initial_location l) = (new_initial_on t g l).table
after_on t g (add_transition pre a post guarded ws l) = (add_transition_on t g pre a post guarded ws l).table
after_on t g (new_send q m count) = (new_send_on t g q m count).table
after_on t g (new_receive q v) = (new_receive_on t g q v).table
after_on t g (new_probe k q) = (new_probe_on t g k q).table

abbrev pub after : List ℕ → Call → List ℕ
after t new_graph = (new_graph_of t).table
after t (new_channel k c) = (new_channel_of t k c).table
after t (call_on_graph g c) = after_on t g c

-- a probe is of one of two kinds
abbrev pub IsProbe : Message → Type 0
IsProbe Send = ⊥
IsProbe Receive = ⊥
IsProbe ProbeEmptyQueue = Unit {0}
IsProbe ProbeFullQueue = Unit {0}

-- the bound of a capacity has 32 bits
abbrev pub CapacityFits : ChannelCapacity → Type 0
CapacityFits (Bounded n) = n < word32
CapacityFits Unbounded = Unit {0}
CapacityFits Sink = Unit {0}

-- handed integers and times have 32 bits, and a probe is one
abbrev pub Fits : OnGraph → Type 0
Fits (new_var v) = FitVal v
Fits new_clock = Unit {0}
Fits new_action = Unit {0}
Fits (new_process l) = Unit {0}
Fits (add_reset a clock) = Unit {0}
Fits (add_effect a v ws) = Unit {0}
Fits (new_timed_location l) = LimitsFit l
Fits (new_initial_location l) = LimitsFit l
Fits (add_transition pre a post guarded ws l) = LimitsFit l
Fits (new_send q m count) = Unit {0}
Fits (new_receive q v) = Unit {0}
Fits (new_probe k q) = IsProbe k

abbrev pub CallFits : Call → Type 0
CallFits new_graph = Unit {0}
CallFits (new_channel k c) = CapacityFits c
CallFits (call_on_graph g c) = Fits c

-- the number of its answer: 0 for ok, else the refusal's
abbrev pub answer_on : List ℕ → ℕ → OnGraph → ℕ
answer_on t g (new_var v) = answer_number (new_var_on t g v).answer
answer_on t g new_clock = answer_number (new_clock_on t g).answer
answer_on t g new_action = answer_number (new_action_on t g).answer
answer_on t g (new_process l) = answer_number (new_process_on t g l).answer
answer_on t g (add_reset a clock) = answer_number (add_reset_on t g a clock).answer
answer_on t g (add_effect a v ws) = answer_number (add_effect_on t g a v ws).answer
answer_on t g (new_timed_location l) = answer_number (new_timed_location_on t g l).answer
answer_on t g (new_initial_location l) = answer_number (new_initial_on t g l).answer
answer_on t g (add_transition pre a post guarded ws l) = answer_number (add_transition_on t g pre a post guarded ws l).answer
answer_on t g (new_send q m count) = answer_number (new_send_on t g q m count).answer
answer_on t g (new_receive q v) = answer_number (new_receive_on t g q v).answer
answer_on t g (new_probe k q) = answer_number (new_probe_on t g k q).answer

abbrev pub answer_of : List ℕ → Call → ℕ
answer_of t new_graph = answer_number (new_graph_of t).answer
answer_of t (new_channel k c) = answer_number (new_channel_of t k c).answer
answer_of t (call_on_graph g c) = answer_on t g c

-- ---- one call after the other
abbrev pub after_all : List ℕ → List Call → List ℕ
after_all t [] = t
after_all t (c ∷ calls) = after_all (after t c) calls

abbrev pub AllFit : List Call → Type 0
AllFit [] = Unit {0}
AllFit (c ∷ calls) = CallFits c × AllFit calls

-- ---- the call that a graph makes of a call on it: a probe is, there, a send of no values
abbrev pub own_call : OnGraph → Own.Call
own_call (new_var v) = Own.new_var v
own_call new_clock = Own.new_clock
own_call new_action = Own.new_action
own_call (new_process l) = Own.new_process l
own_call (add_reset a clock) = Own.add_reset a clock
own_call (add_effect a v ws) = Own.add_effect a v ws
own_call (new_timed_location l) = Own.new_timed_location l
own_call (new_initial_location l) = Own.new_initial_location l
own_call (add_transition pre a post guarded ws l) = Own.add_transition pre a post guarded ws l
own_call (new_send q m count) = Own.new_send m count
own_call (new_receive q v) = Own.new_receive v
own_call (new_probe k q) = Own.new_send no_values 0

-- the action that a call adds has this communication
abbrev pub Tells : OnGraph → Communication → Type 0
Tells (new_var v) c = ⊥
Tells new_clock c = ⊥
Tells new_action c = c ≡ Plain
Tells (new_process l) c = ⊥
Tells (add_reset a clock) c = ⊥
Tells (add_effect a v ws) c = ⊥
Tells (new_timed_location l) c = ⊥
Tells (new_initial_location l) c = ⊥
Tells (add_transition pre a post guarded ws l) c = ⊥
Tells (new_send q m count) c = c ≡ On Send q
Tells (new_receive q v) c = c ≡ On Receive q
Tells (new_probe k q) c = c ≡ On k q
