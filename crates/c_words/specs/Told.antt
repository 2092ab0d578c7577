-- What each answer is in C: a number, 0 for ok, and the words that it tells. A refusal tells none, but for the graph of a wait's 9.
use Rattle.std.specs.Prelude.{ℕ, ◌+◌, ◌≡◌, List, [], ◌∷◌, get_or, set, Bool, Ok, Err, Some, None, ⊤}
use Rattle.graph_tables.specs.Answers.{Answer}
use Rattle.grammar.specs.declared.values.«Type».{«Type» as Kind}
use Rattle.grammar.specs.declared.values.Val.{Val}
use Rattle.system_tables.specs.declared.ids.PgId.{PgId}
use Rattle.channel_system.specs.declared.answers.WaitError.{WaitError}
use Rattle.std.specs.declared.result.Result.{Result}
use Rattle.std.specs.declared.option.Option.{Option}
use Rattle.grammar.specs.Values.{kind_word}
use Rattle.grammar.specs.Slots.{kind_in, payload_in, truth_word}
use Rattle.grammar.specs.Evaluation.{blank}
use Rattle.grammar.specs.declared.values.Slot.{Slot}
use Rattle.graph_tables.specs.Refusals.{number_of}
use Rattle.graph_tables.specs.declared.refusals.Refusal.{Refusal}
use Rattle.graph_tables.specs.declared.handed.Message.{Message}
use Rattle.graph_tables.specs.declared.answers.Entry.{Entry}
use Rattle.system_tables.specs.Sizes.{bounded_sort, unbounded_sort, sink_sort}
use Rattle.system_tables.specs.Words.{message_word}
use Rattle.system_tables.specs.declared.ids.ChannelCapacity.{ChannelCapacity}
use Rattle.system_tables.specs.declared.ids.ChannelCapacity.TheVariants.{Bounded, Unbounded, Sink}
use Rattle.system_tables.specs.declared.ids.Communication.{Communication}
use Rattle.system_tables.specs.declared.ids.Communication.TheVariants.{Plain, On}
use Rattle.system_builder.specs.declared.handed.Kinds.{Kinds}
use Rattle.system_builder.specs.Systems.{handed_kind}
use Rattle.system_builder.specs.declared.answers.ChannelRead.{ChannelRead}
use Rattle.channel_system.specs.declared.answers.Event.{Event}
use Rattle.channel_system.specs.Steps.{Stepped, carrying}

-- ---- sizes: how many words each result has
abbrev pub number_words : ℕ
number_words = 1

abbrev pub value_words : ℕ
value_words = 2

abbrev pub queued_words : ℕ
queued_words = 3

abbrev pub entry_words : ℕ
entry_words = 4

abbrev pub graph_entry_words : ℕ
graph_entry_words = 5

abbrev pub places_words : ℕ
places_words = 5

abbrev pub channel_words : ℕ
channel_words = 7

abbrev pub message_words : ℕ
message_words = 9

abbrev pub event_words : ℕ
event_words = 12

-- ---- a number and words
pub record Told : Type 0 where
  pub number : ℕ
  pub words : List ℕ

abbrev pub saying : List ℕ → Told
saying ws = record { number = 0; words = ws }

abbrev pub refusing : Refusal → Told
refusing r = record { number = number_of r; words = [] }

-- the words where a call accepts
abbrev pub done_saying : Answer ⊤ → List ℕ → Told
done_saying (Ok _) ws = saying ws
done_saying (Err r) ws = refusing r

abbrev pub done_told : Answer ⊤ → Told
done_told d = done_saying d []

-- the words of its value where a call accepts
abbrev pub answer_told : {A : Type 0} → (A → List ℕ) → Answer A → Told
answer_told said (Ok x) = saying (said x)
answer_told said (Err r) = refusing r

-- the number of a new part, a time, a length
abbrev pub number_said : ℕ → List ℕ
number_said n = n ∷ []

abbrev pub placed_told : Answer ℕ → Told
placed_told = answer_told number_said

abbrev pub now_told : Answer ℕ → Told
now_told = answer_told number_said

abbrev pub length_told : Answer ℕ → Told
length_told = answer_told number_said

-- a kind
abbrev pub type_said : Kind → List ℕ
type_said k = kind_word k ∷ []

abbrev pub var_type_told : Answer Kind → Told
var_type_told = answer_told type_said

-- yes or no
abbrev pub truth_said : Bool → List ℕ
truth_said b = truth_word b ∷ []

abbrev pub held_told : Answer Bool → Told
held_told = answer_told truth_said

-- a value
abbrev pub value_said : Val → List ℕ
value_said x = kind_in x ∷ payload_in x ∷ []

abbrev pub value_told : Answer Val → Told
value_told = answer_told value_said

-- a value that is stored: 1, its kind and its payload; past the end zeros
abbrev pub queued_said : Option Val → List ℕ
queued_said (Some x) = 1 ∷ kind_in x ∷ payload_in x ∷ []
queued_said None = 0 ∷ 0 ∷ 0 ∷ []

abbrev pub queued_told : Answer (Option Val) → Told
queued_told = answer_told queued_said

-- an entry of a graph's listing: 1, action, process, post; past the end zeros
abbrev pub entry_said : Option Entry → List ℕ
entry_said (Some e) = 1 ∷ e.action.0 ∷ e.process ∷ e.post ∷ []
entry_said None = 0 ∷ 0 ∷ 0 ∷ 0 ∷ []

abbrev pub entry_told : Answer (Option Entry) → Told
entry_told = answer_told entry_said

-- of a system's listing: 1, graph, action, process, post
abbrev pub graph_entry_said : Option (PgId × Entry) → List ℕ
graph_entry_said (Some (g, e)) = 1 ∷ g.0 ∷ e.action.0 ∷ e.process ∷ e.post ∷ []
graph_entry_said None = 0 ∷ 0 ∷ 0 ∷ 0 ∷ 0 ∷ []

abbrev pub graph_entry_told : Answer (Option (PgId × Entry)) → Told
graph_entry_told = answer_told graph_entry_said

-- a wait: with 9 the graph that stands against it, else no word
abbrev pub waited_told : Result ⊤ WaitError → Told
waited_told (Ok _) = saying []
waited_told (Err (WaitError.Invariant g)) = record { number = number_of Refusal.Invariant; words = g.0 ∷ [] }
waited_told (Err (WaitError.Refused r)) = refusing r

-- a message: how many values, then the kind and the payload of each of its four places
abbrev pub kind_on : Message → ℕ → ℕ
kind_on m i = kind_in (get_or m.values i blank).value

abbrev pub payload_on : Message → ℕ → ℕ
payload_on m i = payload_in (get_or m.values i blank).value

abbrev pub message_said : Message → List ℕ
message_said m =
    m.count ∷ kind_on m 0 ∷ payload_on m 0 ∷ kind_on m 1 ∷ payload_on m 1 ∷ kind_on m 2 ∷ payload_on m 2 ∷ kind_on m 3 ∷ payload_on m 3 ∷ []

-- an event: the graph, the kind of communication and its channel, the message; a plain step has kind 0 and channel 0
abbrev pub kind_said : Communication → ℕ
kind_said Plain = 0
kind_said (On m q) = message_word m

abbrev pub channel_said : Communication → ℕ
channel_said Plain = 0
channel_said (On m q) = q.0

abbrev pub event_said : Event → List ℕ
event_said e = e.pg_id.0 ∷ kind_said e.on ∷ channel_said e.on ∷ message_said e.values

abbrev pub event_told : Answer Event → Told
event_told = answer_told event_said

abbrev pub stepped_told : Stepped → Told
stepped_told s = event_told (carrying s.answer s.event)

-- a channel: how many values a message has, the kinds of four, the sort of its capacity, the bound
abbrev pub sort_said : ChannelCapacity → ℕ
sort_said (Bounded n) = bounded_sort
sort_said Unbounded = unbounded_sort
sort_said Sink = sink_sort

abbrev pub bound_said : ChannelCapacity → ℕ
bound_said (Bounded n) = n
bound_said Unbounded = 0
bound_said Sink = 0

abbrev pub channel_row_said : Kinds → ChannelCapacity → List ℕ
channel_row_said k c =
    k.count ∷ handed_kind k 0 ∷ handed_kind k 1 ∷ handed_kind k 2 ∷ handed_kind k 3 ∷ sort_said c ∷ bound_said c ∷ []

abbrev pub channel_told : ChannelRead → Told
channel_told r = done_saying r.answer (channel_row_said r.kinds r.capacity)

-- ---- words in a lent slice, from place i on; the rest is as it was
abbrev pub put_from : ℕ → List ℕ → List ℕ → List ℕ
put_from i [] out = out
put_from i (w ∷ ws) out = put_from (i + 1) ws (set out i w)

abbrev pub put : List ℕ → List ℕ → List ℕ
put ws out = put_from 0 ws out

-- a number and the slice are those of an answer
abbrev pub Says : ℕ → List ℕ → List ℕ → Told → Type 0
Says r after out a = (r ≡ a.number) × (after ≡ put a.words out)
