-- What each building call asks, in the order of its refusals (docs/RULES.md, 'Building' and 'Refusals'): 32 first, 28 last, but for a
-- handed list over its size.
use Rattle.std.specs.Prelude.{ℕ, zero, suc, ◌+◌, Bool, true, false, not, List, eqb, leb, ltb, Ok, Err, ⊤}
use Rattle.graph_tables.specs.Answers.{Answer, admitted}
use Rattle.laws.specs.Ladder.{unless}
use Rattle.laws.specs.Below.{all_below, sum_below}
use Rattle.time.specs.Time.{in_range}
use Rattle.grammar.specs.Draws.{draws_of}
use Rattle.grammar.specs.Typing.{type_of, kinded, kinded_as, too_deep, too_long}
use Rattle.grammar.specs.declared.typing.Typed.{Typed}
use Rattle.graph_tables.specs.Sizes.{process_room, location_room, action_room, transition_room, variable_room, clock_room, limit_room, effect_room}
use Rattle.graph_tables.specs.Sizes.{reset_room, draw_room, message_room}
use Rattle.graph_tables.specs.Sizes.{boolean_kind, send_kind, receive_kind}
use Rattle.graph_tables.specs.Refusals.{refusal}
use Rattle.graph_tables.specs.declared.handed.Limits.{Limits}
use Rattle.graph_tables.specs.declared.handed.Vars.{Vars}
use Rattle.graph_tables.specs.Handed.{handed_clock, handed_range, handed_var}
use Rattle.graph_tables.specs.Words.{variable_count, clock_count, location_count, action_count, process_count, transition_count, kind_at, kinds_of}
use Rattle.graph_tables.specs.Words.{action_kind, reset_count, effect_count, epsilon, invariant_count, invariant_group}
use Rattle.graph_tables.specs.Formed.{well_formed, zero_inside, effect_draws, action_known}

-- refused, by the number of the rule
abbrev pub refused_by : ℕ → Answer ⊤
refused_by n = Err (refusal n)

-- the first of two checks that refuses
infixr 20 ◌then◌
abbrev pub ◌then◌ : Answer ⊤ → Answer ⊤ → Answer ⊤
(Ok _) then rest = rest
Err r then rest = Err r

-- the first of n checks that refuses
unfoldable pub each_below : ℕ → (ℕ → Answer ⊤) → Answer ⊤
each_below zero f = admitted
each_below (suc n) f = each_below n f then f n

-- a table under construction may lack a process
abbrev pub on_table : List ℕ → Answer ⊤ → Answer ⊤
on_table t rest = unless (well_formed t true) (refused_by 32) rest

-- room for one more
abbrev pub room_for : ℕ → ℕ → Answer ⊤ → Answer ⊤
room_for n size rest = unless (ltb n size) (refused_by 28) rest

-- ---- a part more, and nothing handed: 28
unfoldable pub var_check : List ℕ → Answer ⊤
var_check t = on_table t (room_for (variable_count t) variable_room admitted)

unfoldable pub clock_check : List ℕ → Answer ⊤
clock_check t = on_table t (room_for (clock_count t) clock_room admitted)

unfoldable pub action_check : List ℕ → Answer ⊤
action_check t = on_table t (room_for (action_count t) action_room admitted)

-- a process at a location that is there: 3, then 9 if one of its invariants excludes time 0
abbrev pub zero_at : List ℕ → ℕ → Bool
zero_at t l = all_below (invariant_count t l) (zero_inside t (invariant_group l))

unfoldable pub place_check : List ℕ → ℕ → Answer ⊤
place_check t l = unless (zero_at t l) (refused_by 9) (room_for (process_count t) process_room admitted)

unfoldable pub process_check : List ℕ → ℕ → Answer ⊤
process_check t l = on_table t (unless (ltb l (location_count t)) (refused_by 3) (place_check t l))

-- ---- handed limits
-- clock i of them is known
unfoldable pub clock_known : List ℕ → Limits → ℕ → Bool
clock_known t l i = ltb (handed_clock l i) (clock_count t)

unfoldable pub clocks_known : List ℕ → Limits → Bool
clocks_known t l = all_below l.count (clock_known t l)

-- limit i of them contains time 0
unfoldable pub starts_inside : Limits → ℕ → Bool
starts_inside l i = in_range (handed_range l i) 0

unfoldable pub all_start_inside : Limits → Bool
all_start_inside l = all_below l.count (starts_inside l)

-- 28 for too many, then 2
unfoldable pub limits_check : List ℕ → Limits → Answer ⊤
limits_check t l = unless (leb l.count limit_room) (refused_by 28) (unless (clocks_known t l) (refused_by 2) admitted)

-- a location: the limits, then 28
unfoldable pub location_check : List ℕ → Limits → Answer ⊤
location_check t l = on_table t (limits_check t l then room_for (location_count t) location_room admitted)

-- a location where a process starts: 9 if an invariant excludes time 0
unfoldable pub start_check : List ℕ → Limits → Answer ⊤
start_check t l =
    unless (all_start_inside l) (refused_by 9) (room_for (location_count t) location_room (room_for (process_count t) process_room admitted))

unfoldable pub initial_check : List ℕ → Limits → Answer ⊤
initial_check t l = on_table t (limits_check t l then start_check t l)

-- ---- actions that take resets and effects: 1 where there is none, then 11 for a send, 12 for a receive
unfoldable pub plain_check : List ℕ → ℕ → Answer ⊤
plain_check t a =
    unless (ltb a (action_count t)) (refused_by 1)
    (unless (not (eqb (action_kind t a) send_kind)) (refused_by 11)
    (unless (not (eqb (action_kind t a) receive_kind)) (refused_by 12) admitted))

unfoldable pub room_for_reset : List ℕ → ℕ → Answer ⊤
room_for_reset t a = plain_check t a then room_for (reset_count t a) reset_room admitted

-- a reset: 10, 2, 1, then 11 or 12
unfoldable pub reset_check : List ℕ → ℕ → ℕ → Answer ⊤
reset_check t a clock =
    on_table t
    (unless (not (eqb a epsilon)) (refused_by 10)
    (unless (ltb clock (clock_count t)) (refused_by 2)
    (room_for_reset t a)))

-- few operands wait, there is room for an effect, and for its draws among those of the action
unfoldable pub room_for_effect : List ℕ → ℕ → Typed → ℕ → Answer ⊤
room_for_effect t a typed draws =
    unless (not (too_deep typed)) (refused_by 28)
    (room_for (effect_count t a) effect_room
    (unless (leb (sum_below (effect_count t a) (effect_draws t a) + draws) draw_room) (refused_by 28) admitted))

-- 6, 4, 5
unfoldable pub assigned_check : List ℕ → ℕ → Typed → Answer ⊤
assigned_check t v typed =
    unless (not (too_long typed)) (refused_by 28)
    (unless (kinded typed) (refused_by 6)
    (unless (ltb v (variable_count t)) (refused_by 4)
    (unless (kinded_as (kind_at t v) typed) (refused_by 5) admitted)))

-- 1, then 11 or 12
unfoldable pub action_effect_check : List ℕ → ℕ → Typed → ℕ → Answer ⊤
action_effect_check t a typed draws = plain_check t a then room_for_effect t a typed draws

unfoldable pub known_effect_check : List ℕ → ℕ → ℕ → List ℕ → Answer ⊤
known_effect_check t a v ws = assigned_check t v (type_of (kinds_of t) ws) then action_effect_check t a (type_of (kinds_of t) ws) (draws_of ws)

-- an effect: 10, 6, 4, 5, 1, then 11 or 12
unfoldable pub effect_check : List ℕ → ℕ → ℕ → List ℕ → Answer ⊤
effect_check t a v ws =
    on_table t
    (unless (not (eqb a epsilon)) (refused_by 10)
    (known_effect_check t a v ws))

-- ---- messages: 28 for too many expressions; then the first that objects, 28 for too many items, else 6
unfoldable pub typed_check : Typed → Answer ⊤
typed_check typed = unless (not (too_long typed)) (refused_by 28) (unless (kinded typed) (refused_by 6) admitted)

unfoldable pub expression_check : List ℕ → (ℕ → List ℕ) → ℕ → Answer ⊤
expression_check kinds m i = typed_check (type_of kinds (m i))

unfoldable pub shallow : List ℕ → (ℕ → List ℕ) → ℕ → Bool
shallow kinds m i = not (too_deep (type_of kinds (m i)))

unfoldable pub message_draws : (ℕ → List ℕ) → ℕ → ℕ
message_draws m i = draws_of (m i)

unfoldable pub send_room : List ℕ → (ℕ → List ℕ) → ℕ → Answer ⊤
send_room t m count =
    unless (all_below count (shallow (kinds_of t) m)) (refused_by 28)
    (unless (leb (sum_below count (message_draws m)) draw_room) (refused_by 28)
    (room_for (action_count t) action_room admitted))

unfoldable pub send_check : List ℕ → (ℕ → List ℕ) → ℕ → Answer ⊤
send_check t m count =
    on_table t
    (unless (leb count message_room) (refused_by 28)
    (each_below count (expression_check (kinds_of t) m) then send_room t m count))

-- 28 for too many variables, then 4
unfoldable pub var_known : List ℕ → Vars → ℕ → Bool
var_known t v i = ltb (handed_var v i) (variable_count t)

unfoldable pub receive_check : List ℕ → Vars → Answer ⊤
receive_check t v =
    on_table t
    (unless (leb v.count message_room) (refused_by 28)
    (unless (all_below v.count (var_known t v)) (refused_by 4)
    (room_for (action_count t) action_room admitted)))

-- ---- transitions
-- 3 for the pre-location, 3 for the post-location, 1
unfoldable pub ends_check : List ℕ → ℕ → ℕ → ℕ → Answer ⊤
ends_check t pre a post =
    unless (ltb pre (location_count t)) (refused_by 3)
    (unless (ltb post (location_count t)) (refused_by 3)
    (unless (action_known t a) (refused_by 1) admitted))

-- 6 for a guard that draws or is no boolean
unfoldable pub guard_check : List ℕ → List ℕ → Answer ⊤
guard_check t ws =
    unless (not (too_long (type_of (kinds_of t) ws))) (refused_by 28)
    (unless (kinded_as boolean_kind (type_of (kinds_of t) ws)) (refused_by 6)
    (unless (eqb (draws_of ws) 0) (refused_by 6)
    (unless (not (too_deep (type_of (kinds_of t) ws))) (refused_by 28) admitted)))

-- a transition may have no guard
abbrev pub if_guarded : Bool → Answer ⊤ → Answer ⊤
if_guarded true check = check
if_guarded false check = admitted

unfoldable pub guard_room : List ℕ → Bool → List ℕ → Answer ⊤
guard_room t guarded ws = if_guarded guarded (guard_check t ws) then room_for (transition_count t) transition_room admitted

-- 2, 6
unfoldable pub conditions_check : List ℕ → Bool → List ℕ → Limits → Answer ⊤
conditions_check t guarded ws l = limits_check t l then guard_room t guarded ws

-- a transition: 3 for the pre-location, 3 for the post-location, 1, 2, 6
unfoldable pub transition_check : List ℕ → ℕ → ℕ → ℕ → Bool → List ℕ → Limits → Answer ⊤
transition_check t pre a post guarded ws l = on_table t (ends_check t pre a post then conditions_check t guarded ws l)
