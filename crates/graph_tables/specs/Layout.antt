-- Where the words of a table stand (docs/LAYOUT.md draws it). Every other file has these names.
use Rattle.std.specs.Prelude.{ℕ, ◌+◌, ◌*◌}
use Rattle.graph_tables.specs.Sizes.{item_room, action_room}

-- ---- all words
abbrev pub table_words : ℕ
table_words = 46890

-- ---- counts
abbrev pub variables_cell : ℕ
variables_cell = 0

abbrev pub clocks_cell : ℕ
clocks_cell = 1

abbrev pub locations_cell : ℕ
locations_cell = 2

abbrev pub actions_cell : ℕ
actions_cell = 3

abbrev pub processes_cell : ℕ
processes_cell = 4

abbrev pub transitions_cell : ℕ
transitions_cell = 5

-- ---- regions: where each starts
abbrev pub kinds_start : ℕ
kinds_start = 6

abbrev pub values_start : ℕ
values_start = 22

abbrev pub places_start : ℕ
places_start = 38

abbrev pub invariants_start : ℕ
invariants_start = 42

abbrev pub actions_start : ℕ
actions_start = 74

abbrev pub transitions_start : ℕ
transitions_start = 1706

abbrev pub limits_start : ℕ
limits_start = 2090

abbrev pub guards_start : ℕ
guards_start = 5930

abbrev pub effects_start : ℕ
effects_start = 14122

-- ---- rows: how many words each has
abbrev pub action_width : ℕ
action_width = 51

abbrev pub transition_width : ℕ
transition_width = 3

abbrev pub limit_width : ℕ
limit_width = 3

abbrev pub group_width : ℕ
group_width = 24

-- ---- the row of an action: a kind, how many resets, how many effects, then 16 of each: resets, variables, lengths
abbrev pub resets_from : ℕ
resets_from = 3

abbrev pub vars_from : ℕ
vars_from = 19

abbrev pub lengths_from : ℕ
lengths_from = 35

-- ---- a word of its own for each variable, process and location
abbrev pub kind_cell : ℕ → ℕ
kind_cell v = kinds_start + v

abbrev pub value_cell : ℕ → ℕ
value_cell v = values_start + v

abbrev pub place_cell : ℕ → ℕ
place_cell p = places_start + p

abbrev pub invariants_cell : ℕ → ℕ
invariants_cell l = invariants_start + l

-- ---- actions
abbrev pub action_row : ℕ → ℕ
action_row a = actions_start + action_width * a

abbrev pub resets_cell : ℕ → ℕ
resets_cell a = action_row a + 1

abbrev pub effects_cell : ℕ → ℕ
effects_cell a = action_row a + 2

abbrev pub reset_cell : ℕ → ℕ → ℕ
reset_cell a i = action_row a + (resets_from + i)

abbrev pub var_cell : ℕ → ℕ → ℕ
var_cell a e = action_row a + (vars_from + e)

abbrev pub length_cell : ℕ → ℕ → ℕ
length_cell a e = action_row a + (lengths_from + e)

-- ---- transitions: a key, the length of the guard, how many limits
abbrev pub transition_row : ℕ → ℕ
transition_row k = transitions_start + transition_width * k

abbrev pub guard_cell : ℕ → ℕ
guard_cell k = transition_row k + 1

abbrev pub limits_cell : ℕ → ℕ
limits_cell k = transition_row k + 2

-- ---- limits, in groups: a clock, a lower and an upper bound
abbrev pub group_start : ℕ → ℕ
group_start g = limits_start + group_width * g

abbrev pub limit_row : ℕ → ℕ → ℕ
limit_row g i = group_start g + limit_width * i

abbrev pub lower_cell : ℕ → ℕ → ℕ
lower_cell g i = limit_row g i + 1

abbrev pub upper_cell : ℕ → ℕ → ℕ
upper_cell g i = limit_row g i + 2

-- ---- items: a slot for the guard of each transition, and one for effect e of action a
abbrev pub guard_slot : ℕ → ℕ
guard_slot k = guards_start + item_room * k

abbrev pub effect_slot : ℕ → ℕ → ℕ
effect_slot a e = effects_start + item_room * (action_room * e + a)

-- ---- a bound's word is time * bound_span + its kind
abbrev pub bound_span : ℕ
bound_span = 4

abbrev pub unbounded_kind : ℕ
unbounded_kind = 0

abbrev pub included_kind : ℕ
included_kind = 1

abbrev pub excluded_kind : ℕ
excluded_kind = 2

-- no bound is of the last kind that there is room for
abbrev pub spare_kind : ℕ
spare_kind = 3

-- ---- a key is (pre * word32 + action) * post_span + post
abbrev pub post_span : ℕ
post_span = 32

abbrev pub pre_span : ℕ
pre_span = 137438953472
