-- A part more in a table, where there is room for it: all words afterwards.
use Rattle.std.specs.Prelude.{ℕ, zero, suc, ◌+◌, ◌<◌, ◌≡◌, true, cond, List, eqb, length, set}
use Rattle.time.specs.Time.{in_range}
use Rattle.time.specs.declared.Bound.{Bound}
use Rattle.time.specs.declared.Bound.TheVariants.{Included, Excluded, Unbounded}
use Rattle.time.specs.declared.TimeRange.{TimeRange}
use Rattle.graph_tables.specs.Layout.{variables_cell, clocks_cell, locations_cell, actions_cell, processes_cell, transitions_cell}
use Rattle.graph_tables.specs.Layout.{transition_width, limit_width, group_width, kind_cell, value_cell, place_cell, invariants_cell, action_row}
use Rattle.graph_tables.specs.Layout.{resets_cell, effects_cell, reset_cell, var_cell, length_cell, transition_row, guard_cell, limits_cell}
use Rattle.graph_tables.specs.Layout.{group_start, limit_row, guard_slot, effect_slot, lower_cell, upper_cell}
use Rattle.graph_tables.specs.Sizes.{item_room, word32, send_kind, receive_kind}
use Rattle.graph_tables.specs.declared.handed.Limits.{Limits}
use Rattle.graph_tables.specs.declared.handed.Vars.{Vars}
use Rattle.graph_tables.specs.Handed.{handed_clock, handed_range, handed_var}
use Rattle.graph_tables.specs.Words.{variable_count, clock_count, location_count, action_count, process_count, transition_count, reset_count}
use Rattle.graph_tables.specs.Words.{effect_count, reset_at, clock_of, key_of, invariant_group, bound_word}
use Rattle.graph_edits.specs.Rows.{place_of, gap_of, pasted_at}

-- ---- variables: a kind and a value
abbrev pub with_var : List ℕ → ℕ → ℕ → List ℕ
with_var t kind value =
    set (set (set t (kind_cell (variable_count t)) kind) (value_cell (variable_count t)) value) variables_cell (variable_count t + 1)

-- ---- clocks
abbrev pub with_clock : List ℕ → List ℕ
with_clock t = set t clocks_cell (clock_count t + 1)

-- ---- limits
-- a limit more in group g, which has n: before the first whose clock is greater
abbrev pub limit_place : List ℕ → ℕ → ℕ → ℕ → ℕ
limit_place t g n clock = place_of (clock_of t g) n clock

abbrev pub limit_put : List ℕ → ℕ → ℕ → ℕ → TimeRange → List ℕ
limit_put t g i clock range =
    set (set (set t (limit_row g i) clock) (lower_cell g i) (bound_word range.lower)) (upper_cell g i) (bound_word range.upper)

unfoldable pub with_limit : List ℕ → ℕ → ℕ → ℕ → TimeRange → List ℕ
with_limit t g n clock range =
    limit_put (gap_of t (limit_row g (limit_place t g n clock)) (limit_row g n) limit_width) g (limit_place t g n clock) clock range

-- the first n of these limits, one after the other, in group g
unfoldable pub with_limits : List ℕ → ℕ → Limits → ℕ → List ℕ
with_limits t g l zero = t
with_limits t g l (suc n) = with_limit (with_limits t g l n) g n (handed_clock l n) (handed_range l n)

-- ---- locations, with their invariants
abbrev pub with_location : List ℕ → Limits → List ℕ
with_location t l =
    set (set (with_limits t (invariant_group (location_count t)) l l.count) (invariants_cell (location_count t)) l.count) locations_cell
    (location_count t + 1)

-- ---- processes
abbrev pub with_process : List ℕ → ℕ → List ℕ
with_process t l = set (set t (place_cell (process_count t)) l) processes_cell (process_count t + 1)

-- ---- actions: a kind, no resets, so many effects
abbrev pub action_put : List ℕ → ℕ → ℕ → ℕ → List ℕ
action_put t a kind count = set (set (set (set t (action_row a) kind) (resets_cell a) 0) (effects_cell a) count) actions_cell (a + 1)

abbrev pub with_action : List ℕ → ℕ → ℕ → List ℕ
with_action t kind count = action_put t (action_count t) kind count

-- a clock among the resets of action a, before the first whose number is greater
abbrev pub reset_place : List ℕ → ℕ → ℕ → ℕ
reset_place t a clock = place_of (reset_at t a) (reset_count t a) clock

abbrev pub with_reset : List ℕ → ℕ → ℕ → List ℕ
with_reset t a clock =
    set (set (gap_of t (reset_cell a (reset_place t a clock)) (reset_cell a (reset_count t a)) 1) (reset_cell a (reset_place t a clock)) clock)
    (resets_cell a) (reset_count t a + 1)

-- expression e of action a: how many items it has, and the items
unfoldable pub with_expression : List ℕ → ℕ → ℕ → List ℕ → List ℕ
with_expression t a e ws = pasted_at (set t (length_cell a e) (length ws)) (effect_slot a e) ws

-- an effect more, behind the others
abbrev pub with_effect : List ℕ → ℕ → ℕ → List ℕ → List ℕ
with_effect t a v ws =
    set (set (with_expression t a (effect_count t a) ws) (var_cell a (effect_count t a)) v) (effects_cell a) (effect_count t a + 1)

-- one of four, by its number
abbrev pub chosen : List ℕ → List ℕ → List ℕ → List ℕ → ℕ → List ℕ
chosen w x y z i = cond (eqb i 0) w (cond (eqb i 1) x (cond (eqb i 2) y z))

-- the first n expressions of a message
unfoldable pub with_expressions : List ℕ → ℕ → (ℕ → List ℕ) → ℕ → List ℕ
with_expressions t a m zero = t
with_expressions t a m (suc n) = with_expression (with_expressions t a m n) a n (m n)

-- a send of count expressions
abbrev pub with_send : List ℕ → (ℕ → List ℕ) → ℕ → List ℕ
with_send t m count = with_action (with_expressions t (action_count t) m count) send_kind count

-- the first n variables that take a message's values
unfoldable pub with_targets : List ℕ → ℕ → Vars → ℕ → List ℕ
with_targets t a v zero = t
with_targets t a v (suc n) = set (with_targets t a v n) (var_cell a n) (handed_var v n)

-- a receive
abbrev pub with_receive : List ℕ → Vars → List ℕ
with_receive t v = with_action (with_targets t (action_count t) v v.count) receive_kind v.count

-- ---- transitions
-- before the first whose key is greater
abbrev pub transition_place : List ℕ → ℕ → ℕ
transition_place t key = place_of (key_of t) (transition_count t) key

-- row p of n rows: a key, how many items the guard has, how many limits
unfoldable pub with_row : List ℕ → ℕ → ℕ → ℕ → ℕ → ℕ → List ℕ
with_row t p n key items limits =
    set (set (set (gap_of t (transition_row p) (transition_row n) transition_width) (transition_row p) key) (guard_cell p) items)
    (limits_cell p) limits

-- limit group p of n groups
unfoldable pub with_group : List ℕ → ℕ → ℕ → Limits → List ℕ
with_group t p n l = with_limits (gap_of t (group_start p) (group_start n) group_width) p l l.count

-- guard p of n guards; none has no items
unfoldable pub with_guard : List ℕ → ℕ → ℕ → List ℕ → List ℕ
with_guard t p n ws = pasted_at (gap_of t (guard_slot p) (guard_slot n) item_room) (guard_slot p) ws

unfoldable pub transition_at : List ℕ → ℕ → ℕ → ℕ → List ℕ → Limits → List ℕ
transition_at t p n key ws l = set (with_guard (with_group (with_row t p n key (length ws) l.count) p n l) p n ws) transitions_cell (n + 1)

abbrev pub with_transition : List ℕ → ℕ → List ℕ → Limits → List ℕ
with_transition t key ws l = transition_at t (transition_place t key) (transition_count t) key ws l

-- ---- what a check has found of handed limits
-- each is of a known clock
abbrev pub ClocksKnown : List ℕ → Limits → Type 0
ClocksKnown t l = (i : ℕ) → i < l.count → handed_clock l i < clock_count t

-- each contains time 0
abbrev pub StartInside : Limits → Type 0
StartInside l = (i : ℕ) → i < l.count → in_range (handed_range l i) 0 ≡ true

-- the times of their bounds have 32 bits, as every handed time has
abbrev pub BoundFits : Bound → Type 0
BoundFits (Included n) = n < word32
BoundFits (Excluded n) = n < word32
BoundFits Unbounded = Unit {0}

abbrev pub LimitsFit : Limits → Type 0
LimitsFit l = (i : ℕ) → i < l.count → BoundFits (handed_range l i).lower × BoundFits (handed_range l i).upper
