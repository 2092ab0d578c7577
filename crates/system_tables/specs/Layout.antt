-- Where the words of a system's table stand (docs/LAYOUT.md draws it). Every other file has these names.
use Rattle.std.specs.Prelude.{ℕ, ◌+◌, ◌*◌}

-- ---- all words
abbrev pub system_words : ℕ
system_words = 375434

-- ---- counts
abbrev pub graphs_cell : ℕ
graphs_cell = 0

abbrev pub channels_cell : ℕ
channels_cell = 1

-- ---- regions: where each starts
abbrev pub channels_start : ℕ
channels_start = 2

abbrev pub members_start : ℕ
members_start = 58

-- ---- rows: how many words each has
abbrev pub channel_span : ℕ
channel_span = 7

abbrev pub member_span : ℕ
member_span = 46922

-- ---- the row of a channel: the width of its messages, 4 kinds, the sort of its capacity, the capacity
abbrev pub kinds_from : ℕ
kinds_from = 1

abbrev pub sort_from : ℕ
sort_from = 5

abbrev pub capacity_from : ℕ
capacity_from = 6

abbrev pub channel_row : ℕ → ℕ
channel_row q = channels_start + channel_span * q

abbrev pub channel_kind_cell : ℕ → ℕ → ℕ
channel_kind_cell q e = channel_row q + (kinds_from + e)

abbrev pub sort_cell : ℕ → ℕ
sort_cell q = channel_row q + sort_from

abbrev pub capacity_cell : ℕ → ℕ
capacity_cell q = channel_row q + capacity_from

-- ---- the row of a graph: a communication for each of 32 actions, then the graph's own words
abbrev pub own_from : ℕ
own_from = 32

abbrev pub member_row : ℕ → ℕ
member_row g = members_start + member_span * g

abbrev pub communication_cell : ℕ → ℕ → ℕ
communication_cell g a = member_row g + a

abbrev pub graph_start : ℕ → ℕ
graph_start g = member_row g + own_from

-- ---- a communication is its kind + communication_span * channel
abbrev pub communication_span : ℕ
communication_span = 256
