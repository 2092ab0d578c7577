-- Whether some transition will be open later (docs/RULES.md, 'is_waiting').
use Rattle.std.specs.Prelude.{ℕ, ◌<◌, Bool, not, ◌||◌, List, eqb, length, get_or}
use Rattle.laws.specs.Below.{◌and◌, all_below, any_below}
use Rattle.time.specs.Time.{lower_met, upper_met}
use Rattle.graph_tables.specs.Words.{location_count, transition_count, invariant_count, key_of, limit_count, pre_of, action_of, post_of, clock_of}
use Rattle.graph_tables.specs.Words.{limit_range, invariant_group}
use Rattle.run_steps.specs.Steps.{leaves_by}

-- each process stands at a known location
abbrev pub PlacesKnown : List ℕ → List ℕ → Type 0
PlacesKnown t places = (p : ℕ) → p < length places → get_or places p 0 < location_count t

-- ---- a clock that equals an excluded bound does not meet it from below, and has passed it from above
unfoldable pub lower_unmet : List ℕ → ℕ → List ℕ → ℕ → Bool
lower_unmet t g clocks i = not (lower_met (limit_range t g i).lower (get_or clocks (clock_of t g i) 0))

unfoldable pub upper_holds : List ℕ → ℕ → List ℕ → ℕ → Bool
upper_holds t g clocks i = upper_met (limit_range t g i).upper (get_or clocks (clock_of t g i) 0)

-- a group of n limits is due: time alone may yet meet them, since some lower bound is unmet and no upper bound is passed
unfoldable pub due_of : List ℕ → ℕ → ℕ → List ℕ → Bool
due_of t g n clocks = any_below n (lower_unmet t g clocks) and all_below n (upper_holds t g clocks)

-- transition k is coming: its limits are due, or the invariants of its post-location are, on clocks that no reset has touched
unfoldable pub coming_of : List ℕ → List ℕ → ℕ → Bool
coming_of t clocks k =
    due_of t k (limit_count t k) clocks || due_of t (invariant_group (post_of (key_of t k))) (invariant_count t (post_of (key_of t k))) clocks

-- ---- actions that every process's location has
-- the location of process p has the action
unfoldable pub place_has : List ℕ → List ℕ → ℕ → ℕ → Bool
place_has t places action p = any_below (transition_count t) (leaves_by t (get_or places p 0) action)

unfoldable pub shared_of : List ℕ → List ℕ → ℕ → ℕ → Bool
shared_of t places n action = all_below n (place_has t places action)

-- ---- some process has a coming transition by an action that all have; guards are not asked
unfoldable pub awaited_of : List ℕ → List ℕ → List ℕ → ℕ → ℕ → ℕ → Bool
awaited_of t clocks places n p k =
    eqb (pre_of (key_of t k)) (get_or places p 0) and coming_of t clocks k and shared_of t places n (action_of (key_of t k))

unfoldable pub process_waits : List ℕ → List ℕ → List ℕ → ℕ → ℕ → Bool
process_waits t clocks places n p = any_below (transition_count t) (awaited_of t clocks places n p)

unfoldable pub waiting_of : List ℕ → List ℕ → List ℕ → ℕ → Bool
waiting_of t clocks places n = any_below n (process_waits t clocks places n)
