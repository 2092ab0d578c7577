-- The calls of a well-formed table's variables, clocks, locations and processes make them.
use Prim.Native.Nat.{ℕ, suc, ◌<◌}
use mathlib.Core.Path.{◌≡◌, sym, ap, ◌∙◌}
use mathlib.Core.Bool.{true}
use mathlib.Core.List.{List, [], ◌∷◌, ◌++◌}
use native.Mathlib.Omega.{arith}
use native.Mathlib.Numerals.{add-one}
use Rattle.laws.proofs.BelowLaws.{all_from}
use Rattle.time.specs.Time.{in_range}
use Rattle.grammar.specs.declared.values.Val.{Val}
use Rattle.grammar.proofs.FitLaws.{words_fit}
use Rattle.graph_tables.specs.Words.{variable_count, clock_count, location_count, action_count, process_count, kind_at, value_at}
use Rattle.graph_tables.specs.Words.{place_at, invariant_count, invariant_group}
use Rattle.graph_tables.specs.Formed.{zero_inside}
use Rattle.graph_tables.specs.Sound.{Sound}
use Rattle.graph_edits.specs.Lists.{list_of, variable_at, variables_of, places_of, StoredLimit, limit_at, invariants_of, locations_of}
use Rattle.graph_edits.specs.Lists.{StoredAction, action_at, transition_of}
use Rattle.graph_checks.specs.Checks.{zero_at}
use Rattle.graph_builder.specs.Reading.{Graph, empty_graph, variables_now, clocks_now, locations_now, processes_now, actions_now}
use Rattle.graph_builder.specs.Reading.{transitions_now}
use Rattle.graph_builder.specs.Chains.{new_var, new_clock, new_process, new_timed_location}
use Rattle.graph_builder.specs.Built.{each_of, limits_back, variable_calls, clock_calls, location_calls, process_calls}
use Rattle.graph_builder.proofs.ExactLaws.{list_last, same_count, same_row, Makes, makes_one, makes_each}
use Rattle.graph_builder.proofs.ExactChecks.{var_ok, clock_ok, process_ok, location_ok}
use Rattle.graph_builder.proofs.ExactHanded.{limits_fit, clocks_known_lem, limits_back_lem}

-- ---- how far a chain has come: the first n parts of a region, all of the regions before it, none of those behind it
module _ (t : List ℕ) where
  abbrev pub some_variables : ℕ → Graph
  some_variables n = variables_now empty_graph (list_of (variable_at t) n)

  abbrev pub some_clocks : ℕ → Graph
  some_clocks n = clocks_now (some_variables (variable_count t)) n

  abbrev pub some_locations : ℕ → Graph
  some_locations n = locations_now (some_clocks (clock_count t)) (list_of (invariants_of t) n)

  abbrev pub some_processes : ℕ → Graph
  some_processes n = processes_now (some_locations (location_count t)) (list_of (place_at t) n)

  abbrev pub actions_first : List StoredAction → Graph
  actions_first actions = actions_now (some_processes (process_count t)) actions

  abbrev pub some_actions : ℕ → Graph
  some_actions n = actions_first (list_of (action_at t) n)

  abbrev pub some_transitions : ℕ → Graph
  some_transitions n = transitions_now (some_actions (action_count t)) (list_of (transition_of t) n)

-- ---- what a table that reads as one of these has
-- so many variables, locations, processes
pub variable_count_lem : (u : List ℕ) (f : ℕ → Val) (n : ℕ) → variables_of u ≡ list_of f n → variable_count u ≡ n
variable_count_lem u f n = same_count (variable_at u) f (variable_count u) n

pub location_count_lem : (u : List ℕ) (f : ℕ → List StoredLimit) (n : ℕ) → locations_of u ≡ list_of f n → location_count u ≡ n
location_count_lem u f n = same_count (invariants_of u) f (location_count u) n

process_count_lem : (u : List ℕ) (f : ℕ → ℕ) (n : ℕ) → places_of u ≡ list_of f n → process_count u ≡ n
process_count_lem u f n = same_count (place_at u) f (process_count u) n

-- the same invariants contain time 0
zero_same : (t u : List ℕ) (l : ℕ) → invariants_of u l ≡ invariants_of t l
    → ((i : ℕ) → i < invariant_count t l → in_range (limit_at t (invariant_group l) i).range 0 ≡ true) → zero_at u l ≡ true
unfolding zero_inside
zero_same t u l e inside =
    let g = invariant_group l in
    let count : invariant_count u l ≡ invariant_count t l = same_count (limit_at u g) (limit_at t g) _ _ e in
    all_from (zero_inside u g) (invariant_count u l)
    (λ i m.
    ap (λ (x : StoredLimit). in_range x.range 0) (same_row (limit_at u g) (limit_at t g) _ _ e i m) ∙ inside i (omega arith))

-- ---- the regions
module _ (t : List ℕ) (s : Sound t) where
  pub makes_variables : Makes (each_of (variable_calls t) (variable_count t)) (some_variables t 0) (some_variables t (variable_count t))
  makes_variables =
      makes_each (variable_calls t) (some_variables t) (variable_count t)
      (λ v l.
      makes_one (new_var (variable_at t v)) (some_variables t v) (some_variables t (suc v)) (words_fit (kind_at t v) (value_at t v))
      (λ u f e.
      let count : variable_count u ≡ v = variable_count_lem u (variable_at t) v (ap (λ (g : Graph). g.variables) e) in
      var_ok u f (variable_at t v) (omega (arith, s.counts.variables)))
      (ap (variables_now empty_graph) (sym (list_last (variable_at t) v))))

  pub makes_clocks : Makes (each_of clock_calls (clock_count t)) (some_clocks t 0) (some_clocks t (clock_count t))
  makes_clocks =
      makes_each clock_calls (some_clocks t) (clock_count t)
      (λ c l.
      makes_one new_clock (some_clocks t c) (some_clocks t (suc c)) tt
      (λ u f e.
      let count : clock_count u ≡ c = ap (λ (g : Graph). g.clocks) e in
      clock_ok u f (omega (arith, s.counts.clocks)))
      (ap (clocks_now (some_variables t (variable_count t))) (add-one c)))

  pub makes_locations : Makes (each_of (location_calls t) (location_count t)) (some_locations t 0) (some_locations t (location_count t))
  makes_locations =
      makes_each (location_calls t) (some_locations t) (location_count t)
      (λ l m.
      let back = limits_back t (invariant_group l) (invariant_count t l) in
      let so = s.invariants l m in
      makes_one (new_timed_location back) (some_locations t l) (some_locations t (suc l)) (limits_fit t (invariant_group l) _ so)
      (λ u f e.
      let count : location_count u ≡ l = location_count_lem u (invariants_of t) l (ap (λ (g : Graph). g.locations) e) in
      location_ok u f back so.few (clocks_known_lem t (invariant_group l) _ so u (ap (λ (g : Graph). g.clocks) e))
      (omega (arith, s.counts.locations)))
      (ap (λ (x : List StoredLimit). locations_now (some_clocks t (clock_count t)) (list_of (invariants_of t) l ++ (x ∷ [])))
      (limits_back_lem t (invariant_group l) _ so)
      ∙ ap (locations_now (some_clocks t (clock_count t))) (sym (list_last (invariants_of t) l))))

  pub makes_processes : Makes (each_of (process_calls t) (process_count t)) (some_processes t 0) (some_processes t (process_count t))
  makes_processes =
      makes_each (process_calls t) (some_processes t) (process_count t)
      (λ p m.
      let so = s.process p m in
      makes_one (new_process (place_at t p)) (some_processes t p) (some_processes t (suc p)) tt
      (λ u f e.
      let there : locations_of u ≡ locations_of t = ap (λ (g : Graph). g.locations) e in
      let places : location_count u ≡ location_count t = location_count_lem u (invariants_of t) (location_count t) there in
      let count : process_count u ≡ p = process_count_lem u (place_at t) p (ap (λ (g : Graph). g.processes) e) in
      process_ok u f (place_at t p) (omega (arith, so.place))
      (zero_same t u (place_at t p) (same_row (invariants_of u) (invariants_of t) _ _ there (place_at t p) (omega (arith, so.place)))
      so.zero_in_range)
      (omega (arith, s.counts.processes)))
      (ap (processes_now (some_locations t (location_count t))) (sym (list_last (place_at t) p))))
