-- What a step and a wait ask, and what they leave (docs/RULES.md, 'Stepping one graph').
use Rattle.std.specs.Prelude.{ℕ, zero, suc, ◌+◌, Bool, true, false, cond, List, eqb, leb, ltb, get_or, set}
use Rattle.laws.specs.Ladder.{unless}
use Rattle.laws.specs.Below.{◌and◌, all_below, any_below}
use Rattle.time.specs.Time.{in_range}
use Rattle.grammar.specs.Evaluation.{evaluation_of}
use Rattle.grammar.specs.declared.values.Val.{Val}
use Rattle.grammar.specs.declared.values.Val.TheVariants.{Boolean, Integer}
use Rattle.grammar.specs.declared.values.Slot.{Slot}
use Rattle.std.specs.Prelude.{Option, Some, None}
use Rattle.graph_tables.specs.Sizes.{last_time}
use Rattle.graph_tables.specs.Words.{location_count, action_count, transition_count, invariant_count, action_kind, reset_count, reset_at}
use Rattle.graph_tables.specs.Words.{effect_count, effect_var, effect_items, key_of, guard_length, guard_items, limit_count, pre_of, action_of}
use Rattle.graph_tables.specs.Words.{post_of, invariant_group, clock_of, limit_range}

-- ---- limits, on the clocks that are given
unfoldable pub limit_holds : List ℕ → ℕ → List ℕ → ℕ → Bool
limit_holds t g clocks i = in_range (limit_range t g i) (get_or clocks (clock_of t g i) 0)

unfoldable pub limits_hold : List ℕ → ℕ → ℕ → List ℕ → Bool
limits_hold t g n clocks = all_below n (limit_holds t g clocks)

-- the invariants of location l
unfoldable pub invariants_hold : List ℕ → List ℕ → ℕ → Bool
invariants_hold t clocks l = limits_hold t (invariant_group l) (invariant_count t l) clocks

-- ---- guards: one without a value is not satisfied
abbrev pub is_true : Val → Bool
is_true (Boolean b) = b
is_true (Integer n) = false

abbrev pub satisfied : Option Val → Bool
satisfied (Some v) = is_true v
satisfied None = false

unfoldable pub guard_holds : List ℕ → List Slot → ℕ → Bool
guard_holds t vars k = cond (eqb (guard_length t k) 0) true (satisfied (evaluation_of vars 0 (guard_items t k)).value)

-- ---- candidates
-- A transition passes when its guard is true, its limits hold on the clocks as they are, and the invariants of the location that it
-- goes to hold on the clocks after: those with the action's resets done.
unfoldable pub passes_of : List ℕ → List Slot → List ℕ → List ℕ → ℕ → Bool
passes_of t vars clocks after k =
    guard_holds t vars k and limits_hold t k (limit_count t k) clocks and invariants_hold t after (post_of (key_of t k))

-- what fails of it first, in that order: it passes exactly when nothing does
abbrev pub nothing_fails : ℕ
nothing_fails = 0

abbrev pub guard_fails : ℕ
guard_fails = 1

abbrev pub limit_fails : ℕ
limit_fails = 2

abbrev pub invariant_fails : ℕ
invariant_fails = 3

unfoldable pub failing_of : List ℕ → List Slot → List ℕ → List ℕ → ℕ → ℕ
failing_of t vars clocks after k =
    unless (guard_holds t vars k) guard_fails
    (unless (limits_hold t k (limit_count t k) clocks) limit_fails
    (unless (invariants_hold t after (post_of (key_of t k))) invariant_fails nothing_fails))

-- transition k leaves a location by an action
unfoldable pub leaves_by : List ℕ → ℕ → ℕ → ℕ → Bool
leaves_by t pre action k = eqb (pre_of (key_of t k)) pre and eqb (action_of (key_of t k)) action

-- a candidate leaves the place of a process by the action to its post; it leads there if it passes
unfoldable pub leads_of : List ℕ → List Slot → List ℕ → List ℕ → ℕ → ℕ → ℕ → ℕ → Bool
leads_of t vars clocks after pre action post k =
    leaves_by t pre action k and eqb (post_of (key_of t k)) post and passes_of t vars clocks after k

-- process p has a candidate that passes
unfoldable pub process_ready : List ℕ → List Slot → List ℕ → List ℕ → List ℕ → ℕ → List ℕ → ℕ → Bool
process_ready t vars clocks after places action posts p =
    any_below (transition_count t) (leads_of t vars clocks after (get_or places p 0) action (get_or posts p 0))

-- every process has one
unfoldable pub ready_of : List ℕ → List Slot → List ℕ → List ℕ → List ℕ → ℕ → ℕ → List ℕ → Bool
ready_of t vars clocks after places n action posts = all_below n (process_ready t vars clocks after places action posts)

-- ---- what an action does
-- there is such an action, and it is of a kind
abbrev pub is_kind : List ℕ → ℕ → ℕ → Bool
is_kind t a kind = ltb a (action_count t) and eqb (action_kind t a) kind

-- the clocks once the first n resets of action a are done
unfoldable pub reset_below : List ℕ → ℕ → List ℕ → ℕ → List ℕ
reset_below t a clocks zero = clocks
reset_below t a clocks (suc n) = set (reset_below t a clocks n) (reset_at t a n) 0

abbrev pub clocks_after : List ℕ → ℕ → List ℕ → List ℕ
clocks_after t a clocks = reset_below t a clocks (reset_count t a)

-- The variables after some effects, what is left of the word, and whether each had a value.
pub record Effected : Type 0 where
  pub vars : List Slot
  pub word : ℕ
  pub fits : Bool

-- variable v gets a value; where there is none, all stays but that it does not fit
abbrev pub assigned : Effected → ℕ → Option Val → ℕ → Effected
assigned s v (Some x) rest = record { vars = set s.vars v (record { value = x }); word = rest; fits = s.fits }
assigned s v None rest = record { vars = s.vars; word = rest; fits = false }

-- one more effect, which sees the ones before: it is run unless one of them had no value
unfoldable pub effect_next : Effected → ℕ → List ℕ → Effected
effect_next s v items =
    cond s.fits (assigned s v (evaluation_of s.vars s.word items).value (evaluation_of s.vars s.word items).rest) s

-- the first n effects of action a, in order
unfoldable pub effects_below : List ℕ → ℕ → Effected → ℕ → Effected
effects_below t a s zero = s
effects_below t a s (suc n) = effect_next (effects_below t a s n) (effect_var t a n) (effect_items t a n)

abbrev pub unchanged : List Slot → ℕ → Effected
unchanged vars word = record { vars = vars; word = word; fits = true }

abbrev pub effected_of : List ℕ → ℕ → List Slot → ℕ → Effected
effected_of t a vars word = effects_below t a (unchanged vars word) (effect_count t a)

-- the places once the first n processes have moved
unfoldable pub placed_below : List ℕ → List ℕ → ℕ → List ℕ
placed_below places posts zero = places
placed_below places posts (suc n) = set (placed_below places posts n) n (get_or posts n 0)

-- each of the first n posts is a known location
unfoldable pub post_known : List ℕ → List ℕ → ℕ → Bool
post_known t posts p = ltb (get_or posts p 0) (location_count t)

-- ---- waiting (docs/RULES.md, 'Waiting')
-- no clock plus the delta passes the last time
unfoldable pub clock_fits : List ℕ → ℕ → ℕ → Bool
clock_fits clocks delta i = leb (get_or clocks i 0 + delta) last_time

-- the first n clocks moved by the delta
unfoldable pub shifted_below : List ℕ → ℕ → ℕ → List ℕ
shifted_below clocks delta zero = clocks
shifted_below clocks delta (suc n) = set (shifted_below clocks delta n) n (get_or clocks n 0 + delta)

-- the invariants at the place of process p
unfoldable pub place_holds : List ℕ → List ℕ → List ℕ → ℕ → Bool
place_holds t places clocks p = invariants_hold t clocks (get_or places p 0)
