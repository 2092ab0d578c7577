-- How many of each a graph's table has room for (docs/RULES.md, 'Sizes'), and how wide the words of its parts are.
use Rattle.std.specs.Prelude.{ℕ}

-- ---- of a graph
abbrev pub process_room : ℕ
process_room = 4

abbrev pub location_room : ℕ
location_room = 32

abbrev pub action_room : ℕ
action_room = 32

abbrev pub transition_room : ℕ
transition_room = 128

abbrev pub variable_room : ℕ
variable_room = 16

abbrev pub clock_room : ℕ
clock_room = 8

-- ---- of a transition, and of a location
abbrev pub limit_room : ℕ
limit_room = 8

-- groups of limits: one for each transition, then one for the invariants of each location
abbrev pub group_room : ℕ
group_room = 160

-- ---- of an action
abbrev pub effect_room : ℕ
effect_room = 16

abbrev pub reset_room : ℕ
reset_room = 16

abbrev pub draw_room : ℕ
draw_room = 64

-- ---- values of a message, and items of an expression
abbrev pub message_room : ℕ
message_room = 4

abbrev pub item_room : ℕ
item_room = 64

-- ---- numbers of 32 bits are below this one
abbrev pub word32 : ℕ
word32 = 4294967296

-- the last time that there is
abbrev pub last_time : ℕ
last_time = 4294967295

-- ---- what a variable is
abbrev pub boolean_kind : ℕ
boolean_kind = 0

abbrev pub integer_kind : ℕ
integer_kind = 1

-- ---- what an action is
abbrev pub plain_kind : ℕ
plain_kind = 0

abbrev pub send_kind : ℕ
send_kind = 1

abbrev pub receive_kind : ℕ
receive_kind = 2

-- what stands for a kind where there is none: no word of a kind
abbrev pub no_kind : ℕ
no_kind = 2
