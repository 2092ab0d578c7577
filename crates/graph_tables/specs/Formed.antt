-- A table is well formed: no count above its size, no number that names nothing, nothing that building would refuse or
-- order otherwise. What stands in unused words is not looked at.
use Rattle.std.specs.Prelude.{ℕ, zero, suc, ◌/◌, ◌%◌, Bool, true, false, cond, ◌||◌, List, eqb, leb, ltb, length}
use Rattle.laws.specs.Below.{◌and◌, all_below, sum_below}
use Rattle.time.specs.Time.{in_range}
use Rattle.grammar.specs.Draws.{draws_of}
use Rattle.grammar.specs.Typing.{type_of, is_typed, typed_as}
use Rattle.graph_tables.specs.Layout.{table_words, bound_span, unbounded_kind, spare_kind}
use Rattle.graph_tables.specs.Sizes.{process_room, location_room, action_room, transition_room, variable_room, clock_room, limit_room}
use Rattle.graph_tables.specs.Sizes.{effect_room, reset_room, draw_room, message_room, item_room, word32}
use Rattle.graph_tables.specs.Sizes.{boolean_kind, integer_kind, plain_kind, send_kind, receive_kind}
use Rattle.graph_tables.specs.Words.{variable_count, clock_count, location_count, action_count, process_count, transition_count, kind_at}
use Rattle.graph_tables.specs.Words.{kinds_of, value_at, place_at, invariant_count, action_kind, reset_count, effect_count, reset_at}
use Rattle.graph_tables.specs.Words.{effect_var, effect_length, key_of, guard_length, limit_count, pre_of, action_of, post_of, clock_of}
use Rattle.graph_tables.specs.Words.{lower_of, upper_of, limit_range, guard_items, effect_items, epsilon, invariant_group}

-- ---- counts
unfoldable pub counts_formed : List ℕ → Bool
counts_formed t =
    leb (variable_count t) variable_room and leb (clock_count t) clock_room and leb (location_count t) location_room and
    leb (action_count t) action_room and
    leb (process_count t) process_room and leb (transition_count t) transition_room

-- ---- variables: a boolean is 0 or 1, an integer has 32 bits
unfoldable pub variable_formed : List ℕ → ℕ → Bool
variable_formed t v =
    cond (eqb (kind_at t v) boolean_kind) (ltb (value_at t v) 2) (eqb (kind_at t v) integer_kind and ltb (value_at t v) word32)

-- ---- limits: a known clock, two bounds, in the order of their clocks
unfoldable pub bound_formed : ℕ → Bool
bound_formed w =
    cond (eqb w unbounded_kind) true
    (cond (eqb (w % bound_span) unbounded_kind) false
    (cond (eqb (w % bound_span) spare_kind) false
    (ltb (w / bound_span) word32)))

-- the clock of the limit before, and 0 before the first
abbrev pub clock_before : List ℕ → ℕ → ℕ → ℕ
clock_before t g zero = 0
clock_before t g (suc i) = clock_of t g i

unfoldable pub limit_formed : List ℕ → ℕ → ℕ → Bool
limit_formed t g i =
    ltb (clock_of t g i) (clock_count t) and bound_formed (lower_of t g i) and bound_formed (upper_of t g i) and
    leb (clock_before t g i) (clock_of t g i)

unfoldable pub limits_formed : List ℕ → ℕ → ℕ → Bool
limits_formed t g n = leb n limit_room and all_below n (limit_formed t g)

-- ---- locations
unfoldable pub location_formed : List ℕ → ℕ → Bool
location_formed t l = limits_formed t (invariant_group l) (invariant_count t l)

-- ---- processes: each at a location whose invariants contain time 0
unfoldable pub zero_inside : List ℕ → ℕ → ℕ → Bool
zero_inside t g i = in_range (limit_range t g i) 0

unfoldable pub process_formed : List ℕ → ℕ → Bool
process_formed t p =
    ltb (place_at t p) (location_count t) and all_below (invariant_count t (place_at t p)) (zero_inside t (invariant_group (place_at t p)))

-- ---- actions
abbrev pub reset_before : List ℕ → ℕ → ℕ → ℕ
reset_before t a zero = 0
reset_before t a (suc i) = reset_at t a i

unfoldable pub reset_formed : List ℕ → ℕ → ℕ → Bool
reset_formed t a i = ltb (reset_at t a i) (clock_count t) and leb (reset_before t a i) (reset_at t a i)

unfoldable pub resets_formed : List ℕ → ℕ → Bool
resets_formed t a = leb (reset_count t a) reset_room and all_below (reset_count t a) (reset_formed t a)

unfoldable pub effect_formed : List ℕ → ℕ → ℕ → Bool
effect_formed t a e =
    ltb (effect_var t a e) (variable_count t) and leb (effect_length t a e) item_room and
    typed_as (kind_at t (effect_var t a e)) (type_of (kinds_of t) (effect_items t a e))

-- all effects together, and all expressions of a message, have room for their draws
unfoldable pub effect_draws : List ℕ → ℕ → ℕ → ℕ
effect_draws t a e = draws_of (effect_items t a e)

unfoldable pub plain_formed : List ℕ → ℕ → Bool
plain_formed t a =
    resets_formed t a and leb (effect_count t a) effect_room and all_below (effect_count t a) (effect_formed t a) and
    leb (sum_below (effect_count t a) (effect_draws t a)) draw_room

-- communications reset nothing; a message has room for few values
unfoldable pub expression_formed : List ℕ → ℕ → ℕ → Bool
expression_formed t a e = leb (effect_length t a e) item_room and is_typed (type_of (kinds_of t) (effect_items t a e))

unfoldable pub send_formed : List ℕ → ℕ → Bool
send_formed t a =
    eqb (reset_count t a) 0 and leb (effect_count t a) message_room and all_below (effect_count t a) (expression_formed t a) and
    leb (sum_below (effect_count t a) (effect_draws t a)) draw_room

unfoldable pub target_formed : List ℕ → ℕ → ℕ → Bool
target_formed t a e = ltb (effect_var t a e) (variable_count t)

unfoldable pub receive_formed : List ℕ → ℕ → Bool
receive_formed t a = eqb (reset_count t a) 0 and leb (effect_count t a) message_room and all_below (effect_count t a) (target_formed t a)

unfoldable pub action_formed : List ℕ → ℕ → Bool
action_formed t a =
    cond (eqb (action_kind t a) plain_kind) (plain_formed t a)
    (cond (eqb (action_kind t a) send_kind) (send_formed t a)
    (eqb (action_kind t a) receive_kind and receive_formed t a))

-- ---- transitions: known parts, in the order of their keys; a guard is a boolean without draws
unfoldable pub action_known : List ℕ → ℕ → Bool
action_known t a = eqb a epsilon || ltb a (action_count t)

unfoldable pub key_formed : List ℕ → ℕ → Bool
key_formed t key = ltb (pre_of key) (location_count t) and ltb (post_of key) (location_count t) and action_known t (action_of key)

abbrev pub key_before : List ℕ → ℕ → ℕ
key_before t zero = 0
key_before t (suc k) = key_of t k

unfoldable pub guard_formed : List ℕ → ℕ → Bool
guard_formed t k =
    cond (eqb (guard_length t k) 0) true
    (leb (guard_length t k) item_room and typed_as boolean_kind (type_of (kinds_of t) (guard_items t k)) and eqb (draws_of (guard_items t k)) 0)

unfoldable pub transition_formed : List ℕ → ℕ → Bool
transition_formed t k =
    key_formed t (key_of t k) and leb (key_before t k) (key_of t k) and guard_formed t k and limits_formed t k (limit_count t k)

-- ---- the whole table; while it is being built it may lack a process
unfoldable pub parts_formed : List ℕ → Bool
parts_formed t =
    all_below (variable_count t) (variable_formed t) and all_below (location_count t) (location_formed t) and
    all_below (process_count t) (process_formed t) and
    all_below (action_count t) (action_formed t) and all_below (transition_count t) (transition_formed t)

unfoldable pub started_of : List ℕ → Bool → Bool
started_of t building = building || ltb 0 (process_count t)

unfoldable pub well_formed : List ℕ → Bool → Bool
well_formed t building = eqb (length t) table_words and counts_formed t and started_of t building and parts_formed t
