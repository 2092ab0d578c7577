-- How many of each a system's table has room for (docs/RULES.md, 'Sizes'), and the words of what it holds.
use Rattle.std.specs.Prelude.{ℕ}

-- ---- of a system
abbrev pub graph_room : ℕ
graph_room = 8

abbrev pub channel_room : ℕ
channel_room = 8

-- ---- sorts of capacity
abbrev pub bounded_sort : ℕ
bounded_sort = 0

abbrev pub unbounded_sort : ℕ
unbounded_sort = 1

abbrev pub sink_sort : ℕ
sink_sort = 2

-- ---- the communication of a plain action, and the kinds of the others
abbrev pub no_communication : ℕ
no_communication = 0

abbrev pub send_message : ℕ
send_message = 1

abbrev pub receive_message : ℕ
receive_message = 2

abbrev pub empty_message : ℕ
empty_message = 3

abbrev pub full_message : ℕ
full_message = 4
