-- The parts of a table as lists, in the order in which they are stored.
use Rattle.std.specs.Prelude.{ℕ, zero, suc, ◌<◌, ◌≡◌, ◌⊎◌, cond, List, [], ◌∷◌, eqb, ltb}
use Rattle.time.specs.declared.TimeRange.{TimeRange}
use Rattle.grammar.specs.Slots.{val_of}
use Rattle.grammar.specs.declared.values.Val.{Val}
use Rattle.graph_tables.specs.Sizes.{plain_kind, send_kind}
use Rattle.graph_tables.specs.declared.handed.Limits.{Limits}
use Rattle.graph_tables.specs.Handed.{handed_clock, handed_range}
use Rattle.graph_tables.specs.Words.{variable_count, location_count, action_count, process_count, transition_count, kind_at, value_at, place_at}
use Rattle.graph_tables.specs.Words.{invariant_count, action_kind, reset_count, effect_count, reset_at, effect_var, key_of, limit_count, pre_of}
use Rattle.graph_tables.specs.Words.{action_of, post_of, key_with, clock_of, limit_range, guard_items, effect_items, invariant_group}

-- f of every number below n, in order
unfoldable pub list_of : {A : Type 0} → (ℕ → A) → ℕ → List A
list_of f zero = []
list_of f (suc n) = f zero ∷ list_of (λ (i : ℕ). f (suc i)) n

-- before the first whose number is greater, so that equal ones stay as added
unfoldable pub insert_sorted : {A : Type 0} → (A → ℕ) → A → List A → List A
insert_sorted number x [] = x ∷ []
insert_sorted number x (y ∷ ys) = cond (ltb (number x) (number y)) (x ∷ (y ∷ ys)) (y ∷ insert_sorted number x ys)

-- f of the entry of number i, and all others as they are
unfoldable pub changed_at : {A : Type 0} → ℕ → (A → A) → List A → List A
changed_at i f [] = []
changed_at zero f (x ∷ xs) = f x ∷ xs
changed_at (suc i) f (x ∷ xs) = x ∷ changed_at i f xs

-- ---- variables
-- the value of variable v at the start, by its kind
abbrev pub variable_at : List ℕ → ℕ → Val
variable_at t v = val_of (kind_at t v) (value_at t v)

-- all variables
abbrev pub variables_of : List ℕ → List Val
variables_of t = list_of (variable_at t) (variable_count t)

-- ---- processes
-- the location where each starts
abbrev pub places_of : List ℕ → List ℕ
places_of t = list_of (place_at t) (process_count t)

-- ---- limits
-- a clock, and the times at which it may stand
pub record StoredLimit : Type 0 where
  pub clock : ℕ
  pub range : TimeRange

-- limit i of group g
abbrev pub limit_at : List ℕ → ℕ → ℕ → StoredLimit
limit_at t g i = record { clock = clock_of t g i; range = limit_range t g i }

-- the first n limits of group g
abbrev pub limits_of : List ℕ → ℕ → ℕ → List StoredLimit
limits_of t g n = list_of (limit_at t g) n

-- the invariants of location l
abbrev pub invariants_of : List ℕ → ℕ → List StoredLimit
invariants_of t l = limits_of t (invariant_group l) (invariant_count t l)

-- all locations: the invariants of each
abbrev pub locations_of : List ℕ → List (List StoredLimit)
locations_of t = list_of (invariants_of t) (location_count t)

-- limit i of those that are handed
abbrev pub handed_limit : Limits → ℕ → StoredLimit
handed_limit l i = record { clock = handed_clock l i; range = handed_range l i }

-- the first n of them, put in one after the other by their clocks
unfoldable pub sorted_limits : Limits → ℕ → List StoredLimit
sorted_limits l zero = []
sorted_limits l (suc n) = insert_sorted (λ (x : StoredLimit). x.clock) (handed_limit l n) (sorted_limits l n)

-- ---- actions
-- the clocks that action a resets
abbrev pub resets_of : List ℕ → ℕ → List ℕ
resets_of t a = list_of (reset_at t a) (reset_count t a)

-- a variable, and the items of the expression that it takes
pub record StoredEffect : Type 0 where
  pub var : ℕ
  pub items : List ℕ

-- effect e of action a
abbrev pub effect_at : List ℕ → ℕ → ℕ → StoredEffect
effect_at t a e = record { var = effect_var t a e; items = effect_items t a e }

-- the effects of plain action a
abbrev pub effects_of : List ℕ → ℕ → List StoredEffect
effects_of t a = list_of (effect_at t a) (effect_count t a)

-- the expressions of send a
abbrev pub expressions_of : List ℕ → ℕ → List (List ℕ)
expressions_of t a = list_of (effect_items t a) (effect_count t a)

-- the variables that take the values of receive a
abbrev pub targets_of : List ℕ → ℕ → List ℕ
targets_of t a = list_of (effect_var t a) (effect_count t a)

-- a plain action has resets and effects, a send the expressions of its message, a receive the variables that take its values
pub data StoredAction : Type 0 where
  plain : List ℕ → List StoredEffect → StoredAction
  send : List (List ℕ) → StoredAction
  receive : List ℕ → StoredAction

-- action a, by its kind
unfoldable pub action_at : List ℕ → ℕ → StoredAction
action_at t a =
    cond (eqb (action_kind t a) plain_kind) (plain (resets_of t a) (effects_of t a))
    (cond (eqb (action_kind t a) send_kind) (send (expressions_of t a))
    (receive (targets_of t a)))

-- all actions
abbrev pub actions_of : List ℕ → List StoredAction
actions_of t = list_of (action_at t) (action_count t)

-- ---- transitions
-- from a location, by an action, to a location; the items of the guard, none where there is no guard; the limits
pub record StoredTransition : Type 0 where
  pub pre : ℕ
  pub action : ℕ
  pub post : ℕ
  pub guard : List ℕ
  pub limits : List StoredLimit

-- the number that orders them
abbrev pub key_in : StoredTransition → ℕ
key_in x = key_with x.pre x.action x.post

-- it orders them by pre-location, then by action, then by post-location
abbrev pub Before : ℕ → ℕ → ℕ → ℕ → ℕ → ℕ → Type 0
Before pre a post from by to = (pre < from) ⊎ ((pre ≡ from) × ((a < by) ⊎ ((a ≡ by) × (post < to))))

-- transition k
abbrev pub transition_of : List ℕ → ℕ → StoredTransition
transition_of t k = record {
  pre = pre_of (key_of t k);
  action = action_of (key_of t k);
  post = post_of (key_of t k);
  guard = guard_items t k;
  limits = limits_of t k (limit_count t k);
}

-- all transitions
abbrev pub transitions_of : List ℕ → List StoredTransition
transitions_of t = list_of (transition_of t) (transition_count t)
