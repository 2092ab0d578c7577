-- Building a system (docs/RULES.md, 'Systems'): its graphs and its channels. Each call gives an answer and the table afterwards; a
-- refusal leaves every word.
use Rattle.std.specs.Prelude.{ℕ, zero, suc, ◌+◌, Bool, true, false, cond, List, [], ◌∷◌, eqb, leb, ltb, length, get_or, set, replicate, Ok, Err, ⊤}
use Rattle.graph_tables.specs.Answers.{Answer, admitted}
use Rattle.laws.specs.Ladder.{unless}
use Rattle.laws.specs.Below.{all_below}
use Rattle.grammar.specs.Values.{kind_word}
use Rattle.grammar.specs.declared.values.«Type».TheVariants as Kinded
use Rattle.graph_tables.specs.Sizes.{message_room}
use Rattle.graph_tables.specs.Words.{process_count}
use Rattle.graph_tables.specs.Refusals.{refusal}
use Rattle.graph_checks.specs.Checks.{refused_by, room_for}
use Rattle.graph_builder.specs.Building.{Outcome, not_done, done_with, placed_if, empty_of}
use Rattle.system_tables.specs.Sizes.{graph_room, channel_room}
use Rattle.system_tables.specs.Layout.{system_words, graphs_cell, channels_cell, channel_row, channel_kind_cell}
use Rattle.system_tables.specs.Words.{graph_count, channel_count, width_of, channel_kind, capacity_of, capacity_set, graph_part, with_graph}
use Rattle.system_tables.specs.Ceiling.{has_room}
use Rattle.system_tables.specs.Formed.{system_formed}
use Rattle.system_tables.specs.declared.ids.ChannelCapacity.{ChannelCapacity}
use Rattle.system_tables.specs.declared.ids.ChannelCapacity.TheVariants.{Sink}
use Rattle.system_builder.specs.declared.answers.ChannelRead.{ChannelRead}
use Rattle.system_builder.specs.declared.handed.Kind.{Kind}
use Rattle.system_builder.specs.declared.handed.Kinds.{Kinds}

-- a table under construction: 32 first
abbrev pub on_system : List ℕ → Answer ⊤ → Answer ⊤
on_system t rest = unless (system_formed t true) (refused_by 32) rest

-- ---- an empty system: the counts alone are written, in any table of its length
abbrev pub no_members : List ℕ → List ℕ
no_members t = set (set t graphs_cell 0) channels_cell 0

unfoldable pub empty_system_of : List ℕ → Outcome (Answer ⊤)
empty_system_of t = unless (eqb (length t) system_words) (not_done (refusal 32) t) (done_with (no_members t))

-- ---- a graph more: 28 if there are 8. It is empty: its counts alone are written
unfoldable pub graph_check : List ℕ → Answer ⊤
graph_check t = on_system t (room_for (graph_count t) graph_room admitted)

abbrev pub with_no_parts : List ℕ → ℕ → List ℕ
with_no_parts t g = with_graph t g (empty_of (graph_part t g)).table

abbrev pub with_new_graph : List ℕ → List ℕ
with_new_graph t = set (with_no_parts t (graph_count t)) graphs_cell (graph_count t + 1)

unfoldable pub new_graph_of : List ℕ → Outcome (Answer ℕ)
new_graph_of t = placed_if (graph_check t) t (graph_count t) (with_new_graph t)

-- ---- a channel more
-- kind e of those that are handed
abbrev pub handed_kind : Kinds → ℕ → ℕ
handed_kind k e = kind_word (get_or k.kinds e (record { kind = Kinded.Boolean })).kind

-- 28 for too many kinds, then 31 if there is no room for what it stores, then 28 if there are 8
unfoldable pub channel_check : List ℕ → Kinds → ChannelCapacity → Answer ⊤
channel_check t k c =
    on_system t
    (unless (leb k.count message_room) (refused_by 28)
    (unless (has_room k.count c) (refused_by 31)
    (room_for (channel_count t) channel_room admitted)))

-- the first n kinds in the row of channel q
unfoldable pub with_kinds : List ℕ → ℕ → Kinds → ℕ → List ℕ
with_kinds t q k zero = t
with_kinds t q k (suc n) = set (with_kinds t q k n) (channel_kind_cell q n) (handed_kind k n)

-- the row of channel q: its kinds, how many they are, its capacity
abbrev pub with_row : List ℕ → ℕ → Kinds → ChannelCapacity → List ℕ
with_row t q k c = capacity_set (set (with_kinds t q k k.count) (channel_row q) k.count) q c

abbrev pub with_new_channel : List ℕ → Kinds → ChannelCapacity → List ℕ
with_new_channel t k c = set (with_row t (channel_count t) k c) channels_cell (channel_count t + 1)

unfoldable pub new_channel_of : List ℕ → Kinds → ChannelCapacity → Outcome (Answer ℕ)
new_channel_of t k c = placed_if (channel_check t k c) t (channel_count t) (with_new_channel t k c)

-- ---- a system can be run when each of its graphs has a process: else 29
unfoldable pub started : List ℕ → ℕ → Bool
started t g = ltb 0 (process_count (graph_part t g))

unfoldable pub build_system_of : List ℕ → Answer ⊤
build_system_of t = on_system t (unless (all_below (graph_count t) (started t)) (refused_by 29) admitted)

-- ---- a channel of a system that can be run is read: 30 if there is none
unfoldable pub read_check : List ℕ → ℕ → Answer ⊤
read_check t q =
    unless (system_formed t false) (refused_by 32) (unless (ltb q (channel_count t)) (refused_by 30) admitted)

abbrev pub blank_kind : Kind
blank_kind = record { kind = Kinded.Boolean }

abbrev pub no_kinds : Kinds
no_kinds = record { kinds = replicate message_room blank_kind; count = 0 }

-- value e has a kind below the width; past it the word is not read
unfoldable pub kind_in : List ℕ → ℕ → ℕ → Kind
kind_in t q e =
    cond (leb (width_of t q) e) blank_kind
    (cond (eqb (channel_kind t q e) (kind_word Kinded.Boolean)) blank_kind (record { kind = Kinded.Integer }))

abbrev pub kinds_in : List ℕ → ℕ → Kinds
kinds_in t q = record { kinds = kind_in t q 0 ∷ kind_in t q 1 ∷ kind_in t q 2 ∷ kind_in t q 3 ∷ []; count = width_of t q }

abbrev pub read_if : Answer ⊤ → Kinds → ChannelCapacity → ChannelRead
read_if (Ok _) k c = record { answer = admitted; kinds = k; capacity = c }
read_if (Err r) k c = record { answer = Err r; kinds = no_kinds; capacity = Sink }

unfoldable pub channel_in : List ℕ → ℕ → ChannelRead
channel_in t q = read_if (read_check t q) (kinds_in t q) (capacity_of t q)
