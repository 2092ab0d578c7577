-- The words of a graph, by name, as they stand in its table.
use Rattle.std.specs.Prelude.{ℕ, ◌+◌, ◌*◌, ◌/◌, ◌%◌, cond, List, ◌≡◌, eqb, length, get_or, take, drop}
use Rattle.graph_tables.specs.Sizes.{transition_room, word32}
use Rattle.graph_tables.specs.Layout.{table_words, variables_cell, clocks_cell, locations_cell, actions_cell, processes_cell}
use Rattle.graph_tables.specs.Layout.{transitions_cell, kinds_start, kind_cell, value_cell, place_cell, invariants_cell, action_row}
use Rattle.graph_tables.specs.Layout.{resets_cell, effects_cell, reset_cell, var_cell, length_cell, transition_row, guard_cell, limits_cell}
use Rattle.graph_tables.specs.Layout.{limit_row, lower_cell, upper_cell, guard_slot, effect_slot, pre_span, post_span}
use Rattle.graph_tables.specs.Layout.{bound_span, unbounded_kind, included_kind, excluded_kind}
use Rattle.time.specs.Time.{range_of}
use Rattle.time.specs.declared.Bound.{Bound}
use Rattle.time.specs.declared.Bound.TheVariants.{Included, Excluded, Unbounded}
use Rattle.time.specs.declared.TimeRange.{TimeRange}

-- a table has this many words
abbrev pub Words : List ℕ → Type 0
Words t = length t ≡ table_words

-- ---- counts
abbrev pub variable_count : List ℕ → ℕ
variable_count t = get_or t variables_cell 0

abbrev pub clock_count : List ℕ → ℕ
clock_count t = get_or t clocks_cell 0

abbrev pub location_count : List ℕ → ℕ
location_count t = get_or t locations_cell 0

abbrev pub action_count : List ℕ → ℕ
action_count t = get_or t actions_cell 0

abbrev pub process_count : List ℕ → ℕ
process_count t = get_or t processes_cell 0

abbrev pub transition_count : List ℕ → ℕ
transition_count t = get_or t transitions_cell 0

-- ---- variables: a kind, and a value at the start as 32 bits
abbrev pub kind_at : List ℕ → ℕ → ℕ
kind_at t v = get_or t (kind_cell v) 0

abbrev pub kinds_of : List ℕ → List ℕ
kinds_of t = take (variable_count t) (drop kinds_start t)

abbrev pub value_at : List ℕ → ℕ → ℕ
value_at t v = get_or t (value_cell v) 0

-- ---- processes: the location where each starts
abbrev pub place_at : List ℕ → ℕ → ℕ
place_at t p = get_or t (place_cell p) 0

-- ---- locations: how many invariants each has
abbrev pub invariant_count : List ℕ → ℕ → ℕ
invariant_count t l = get_or t (invariants_cell l) 0

-- ---- actions: a kind, resets, and effects, or the values of a message
abbrev pub action_kind : List ℕ → ℕ → ℕ
action_kind t a = get_or t (action_row a) 0

abbrev pub reset_count : List ℕ → ℕ → ℕ
reset_count t a = get_or t (resets_cell a) 0

abbrev pub effect_count : List ℕ → ℕ → ℕ
effect_count t a = get_or t (effects_cell a) 0

abbrev pub reset_at : List ℕ → ℕ → ℕ → ℕ
reset_at t a i = get_or t (reset_cell a i) 0

-- the variable of effect e, or the variable that takes value e of a received message
abbrev pub effect_var : List ℕ → ℕ → ℕ → ℕ
effect_var t a e = get_or t (var_cell a e) 0

-- how many items effect e has, or expression e of a message that is sent
abbrev pub effect_length : List ℕ → ℕ → ℕ → ℕ
effect_length t a e = get_or t (length_cell a e) 0

-- ---- transitions: a key, how many items the guard has (0: there is none), how many limits
abbrev pub key_of : List ℕ → ℕ → ℕ
key_of t k = get_or t (transition_row k) 0

abbrev pub guard_length : List ℕ → ℕ → ℕ
guard_length t k = get_or t (guard_cell k) 0

abbrev pub limit_count : List ℕ → ℕ → ℕ
limit_count t k = get_or t (limits_cell k) 0

-- a key has the three in one number, so that one order serves for them
abbrev pub pre_of : ℕ → ℕ
pre_of key = key / pre_span

abbrev pub action_of : ℕ → ℕ
action_of key = key / post_span % word32

abbrev pub post_of : ℕ → ℕ
post_of key = key % post_span

abbrev pub key_with : ℕ → ℕ → ℕ → ℕ
key_with pre action post = (pre * word32 + action) * post_span + post

-- ---- limits: group k for transition k, and one for the invariants of location l
abbrev pub invariant_group : ℕ → ℕ
invariant_group l = transition_room + l

abbrev pub clock_of : List ℕ → ℕ → ℕ → ℕ
clock_of t g i = get_or t (limit_row g i) 0

abbrev pub lower_of : List ℕ → ℕ → ℕ → ℕ
lower_of t g i = get_or t (lower_cell g i) 0

abbrev pub upper_of : List ℕ → ℕ → ℕ → ℕ
upper_of t g i = get_or t (upper_cell g i) 0

-- a bound's word: its time and its kind
abbrev pub bound_of : ℕ → Bound
bound_of w =
    cond (eqb (w % bound_span) included_kind) (Included (w / bound_span))
    (cond (eqb (w % bound_span) excluded_kind) (Excluded (w / bound_span)) Unbounded)

abbrev pub bound_word : Bound → ℕ
bound_word (Included n) = n * bound_span + included_kind
bound_word (Excluded n) = n * bound_span + excluded_kind
bound_word Unbounded = unbounded_kind

abbrev pub limit_range : List ℕ → ℕ → ℕ → TimeRange
limit_range t g i = range_of (bound_of (lower_of t g i)) (bound_of (upper_of t g i))

-- ---- items: a slot for the guard of each transition, and for effect e of action a
abbrev pub guard_items : List ℕ → ℕ → List ℕ
guard_items t k = take (guard_length t k) (drop (guard_slot k) t)

abbrev pub effect_items : List ℕ → ℕ → ℕ → List ℕ
effect_items t a e = take (effect_length t a e) (drop (effect_slot a e) t)

-- the reserved action number
abbrev pub epsilon : ℕ
epsilon = 4294967295
