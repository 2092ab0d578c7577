-- A well-formed table as the chain of calls that builds it, from an empty one (docs/RULES.md, 'Building'): its variables, clocks,
-- locations, processes, actions and transitions, in the order in which they are stored. What is stored is handed back.
use Rattle.std.specs.Prelude.{ℕ, zero, suc, ◌≡◌, cond, List, [], ◌∷◌, ◌++◌, eqb, ltb}
use Rattle.graph_tables.specs.Sizes.{limit_room, message_room, plain_kind, send_kind}
use Rattle.graph_tables.specs.declared.handed.Limit.{Limit}
use Rattle.graph_tables.specs.declared.handed.Limits.{Limits}
use Rattle.graph_tables.specs.declared.handed.Vars.{Vars}
use Rattle.graph_tables.specs.declared.ids.Var.{Var}
use Rattle.graph_tables.specs.Handed.{blank_limit}
use Rattle.graph_tables.specs.Words.{variable_count, clock_count, location_count, action_count, process_count, transition_count, place_at}
use Rattle.graph_tables.specs.Words.{invariant_count, action_kind, reset_count, effect_count, reset_at, effect_var, key_of, guard_length}
use Rattle.graph_tables.specs.Words.{limit_count, pre_of, action_of, post_of, clock_of, limit_range, guard_items, effect_items, invariant_group}
use Rattle.graph_edits.specs.Edits.{chosen}
use Rattle.graph_edits.specs.Lists.{list_of, variable_at}
use Rattle.graph_builder.specs.Chains.{Call, new_var, new_clock, new_action, new_process, add_reset, add_effect, new_send}
use Rattle.graph_builder.specs.Chains.{new_receive, new_timed_location, add_transition, after, answer_of}

-- ---- chains
-- the calls of every number below n, in order
unfoldable pub each_of : (ℕ → List Call) → ℕ → List Call
each_of f zero = []
each_of f (suc n) = each_of f n ++ f n

-- every call is accepted in its turn
abbrev pub AllAccepted : List ℕ → List Call → Type 0
AllAccepted t [] = Unit {0}
AllAccepted t (c ∷ calls) = (answer_of t c ≡ 0) × AllAccepted (after t c) calls

-- ---- lists that are handed
-- limit i of the n of group g; slots behind them are blank
abbrev pub limit_back : List ℕ → ℕ → ℕ → ℕ → Limit
limit_back t g n i = cond (ltb i n) (record { clock = record { 0 = clock_of t g i }; range = limit_range t g i }) blank_limit

abbrev pub limits_back : List ℕ → ℕ → ℕ → Limits
limits_back t g n = record { limits = list_of (limit_back t g n) limit_room; count = n }

-- variable e of those that take the n values of receive a
abbrev pub var_back : List ℕ → ℕ → ℕ → ℕ → Var
var_back t a n e = record { 0 = cond (ltb e n) (effect_var t a e) 0 }

abbrev pub vars_back : List ℕ → ℕ → ℕ → Vars
vars_back t a n = record { vars = list_of (var_back t a n) message_room; count = n }

-- the expressions of send a: a message has four at most
abbrev pub message_back : List ℕ → ℕ → ℕ → List ℕ
message_back t a = chosen (effect_items t a 0) (effect_items t a 1) (effect_items t a 2) (effect_items t a 3)

-- ---- the calls of each part
abbrev pub variable_calls : List ℕ → ℕ → List Call
variable_calls t v = new_var (variable_at t v) ∷ []

abbrev pub clock_calls : ℕ → List Call
clock_calls c = new_clock ∷ []

abbrev pub location_calls : List ℕ → ℕ → List Call
location_calls t l = new_timed_location (limits_back t (invariant_group l) (invariant_count t l)) ∷ []

abbrev pub process_calls : List ℕ → ℕ → List Call
process_calls t p = new_process (place_at t p) ∷ []

abbrev pub reset_calls : List ℕ → ℕ → ℕ → List Call
reset_calls t a i = add_reset a (reset_at t a i) ∷ []

abbrev pub effect_calls : List ℕ → ℕ → ℕ → List Call
effect_calls t a e = add_effect a (effect_var t a e) (effect_items t a e) ∷ []

-- a plain action, its resets, then its effects
abbrev pub plain_calls : List ℕ → ℕ → List Call
plain_calls t a = (new_action ∷ []) ++ (each_of (reset_calls t a) (reset_count t a) ++ each_of (effect_calls t a) (effect_count t a))

-- an action, by its kind
unfoldable pub action_calls : List ℕ → ℕ → List Call
action_calls t a =
    cond (eqb (action_kind t a) plain_kind) (plain_calls t a)
    (cond (eqb (action_kind t a) send_kind) (new_send (message_back t a) (effect_count t a) ∷ [])
    (new_receive (vars_back t a (effect_count t a)) ∷ []))

-- a guard that has no items is none
abbrev pub transition_call : List ℕ → ℕ → Call
transition_call t k =
    add_transition (pre_of (key_of t k)) (action_of (key_of t k)) (post_of (key_of t k)) (ltb 0 (guard_length t k)) (guard_items t k)
    (limits_back t k (limit_count t k))

abbrev pub transition_calls : List ℕ → ℕ → List Call
transition_calls t k = transition_call t k ∷ []

-- ---- the whole table
unfoldable pub calls_of : List ℕ → List Call
calls_of t =
    each_of (variable_calls t) (variable_count t)
    ++ (each_of clock_calls (clock_count t)
    ++ (each_of (location_calls t) (location_count t)
    ++ (each_of (process_calls t) (process_count t)
    ++ (each_of (action_calls t) (action_count t)
    ++ each_of (transition_calls t) (transition_count t)))))
