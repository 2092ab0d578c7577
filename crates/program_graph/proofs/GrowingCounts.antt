-- What a building call does to the counts that a run shares with its table.
use Prim.Native.Nat.{ℕ, zero, suc, ◌+◌, ◌<◌}
use mathlib.Core.Path.{◌≡◌, refl, sym, ap, ◌∙◌}
use mathlib.Core.Bool.{true, false}
use mathlib.Core.List.{List}
use native.Mathlib.Omega.{arith}
use borrow.Author.Tests.{eqb-true, eq-eqb}
use lib.ListN.{length, length-append}
use Rattle.laws.proofs.Tests.{never}
use Rattle.graph_tables.specs.Words.{variable_count, clock_count, process_count, place_at}
use Rattle.graph_edits.specs.Lists.{variable_at, StoredLimit, StoredAction, StoredTransition}
use Rattle.graph_edits.proofs.ListLaws.{list_length}
use Rattle.graph_builder.specs.Chains.{Call, new_var, new_clock, new_action, new_process, add_reset, add_effect, new_send, new_receive}
use Rattle.graph_builder.specs.Chains.{new_timed_location, new_initial_location, add_transition, after, answer_of, Fits}
use Rattle.graph_builder.specs.Reading.{Graph, graph_of, added}
use Rattle.graph_builder.proofs.Theorems.{reads_as, refused_leaves}
use Rattle.program_graph.specs.GrowingChains.{widens}

-- as many processes, variables and clocks
pub record SameCounts (t u : List ℕ) : Type 0 where
  pub processes : process_count u ≡ process_count t
  pub variables : variable_count u ≡ variable_count t
  pub clocks : clock_count u ≡ clock_count t

-- all of them together
abbrev pub total : List ℕ → ℕ
total t = process_count t + variable_count t + clock_count t

-- ---- the same of a graph
record SameParts (g h : Graph) : Type 0 where
  processes : length h.processes ≡ length g.processes
  variables : length h.variables ≡ length g.variables
  clocks : h.clocks ≡ g.clocks

abbrev all_parts : Graph → ℕ
all_parts g = length g.processes + length g.variables + g.clocks

processes_read : (t : List ℕ) → length (graph_of t).processes ≡ process_count t
processes_read t = list_length (place_at t) (process_count t)

variables_read : (t : List ℕ) → length (graph_of t).variables ≡ variable_count t
variables_read t = list_length (variable_at t) (variable_count t)

-- ---- an accepted call
-- other locations, actions or transitions
others : (g : Graph) (locations : List (List StoredLimit)) (actions : List StoredAction) (transitions : List StoredTransition)
    → SameParts g (record {
      variables = g.variables;
      clocks = g.clocks;
      locations = locations;
      processes = g.processes;
      actions = actions;
      transitions = transitions;
    })
others g locations actions transitions = record { processes = refl; variables = refl; clocks = refl }

module _ (t : List ℕ) where
  -- one that adds no process, variable or clock
  same_parts : (c : Call) → answer_of t c ≡ 0 → widens t c ≡ false → SameParts (graph_of t) (added c (graph_of t))
  same_parts (new_var v) e n = never (sym n ∙ eq-eqb _ _ e)
  same_parts new_clock e n = never (sym n ∙ eq-eqb _ _ e)
  same_parts new_action e n = others (graph_of t) _ _ _
  same_parts (new_process l) e n = never (sym n ∙ eq-eqb _ _ e)
  same_parts (add_reset a clock) e n = others (graph_of t) _ _ _
  same_parts (add_effect a v ws) e n = others (graph_of t) _ _ _
  same_parts (new_send m count) e n = others (graph_of t) _ _ _
  same_parts (new_receive v) e n = others (graph_of t) _ _ _
  same_parts (new_timed_location l) e n = others (graph_of t) _ _ _
  same_parts (new_initial_location l) e n = never (sym n ∙ eq-eqb _ _ e)
  same_parts (add_transition pre a post guarded ws l) e n = others (graph_of t) _ _ _

  -- one that adds one is accepted, and there are more
  more_parts : (c : Call) → widens t c ≡ true → (answer_of t c ≡ 0) × (all_parts (graph_of t) < all_parts (added c (graph_of t)))
  more_parts (new_var v) y = (eqb-true _ _ y, simp length-append (omega arith))
  more_parts new_clock y = (eqb-true _ _ y, omega arith)
  more_parts new_action y = never y
  more_parts (new_process l) y = (eqb-true _ _ y, simp length-append (omega arith))
  more_parts (add_reset a clock) y = never y
  more_parts (add_effect a v ws) y = never y
  more_parts (new_send m count) y = never y
  more_parts (new_receive v) y = never y
  more_parts (new_timed_location l) y = never y
  more_parts (new_initial_location l) y = (eqb-true _ _ y, simp length-append (omega arith))
  more_parts (add_transition pre a post guarded ws l) y = never y

  -- ---- a building call
  -- that adds no process, variable or clock leaves their counts
  pub counts_stay : (c : Call) → Fits c → widens t c ≡ false → SameCounts t (after t c)
  counts_stay c fit n = by (answer_of t c) refl
    where
      u : List ℕ
      u = after t c

      by : (m : ℕ) → answer_of t c ≡ m → SameCounts t u
      by zero e =
          let so : SameParts (graph_of t) (graph_of u) = rw (reads_as t c fit e) (same_parts c e n) in
          record {
            processes = omega (arith, so.processes, processes_read t, processes_read u);
            variables = omega (arith, so.variables, variables_read t, variables_read u);
            clocks = so.clocks;
          }
      by (suc m) e = rw (refused_leaves t c (omega arith)) (record { processes = refl; variables = refl; clocks = refl })

  -- that adds one raises their total
  pub counts_rise : (c : Call) → Fits c → widens t c ≡ true → total t < total (after t c)
  counts_rise c fit y =
      let u : List ℕ = after t c in
      let more = more_parts c y in
      let so : all_parts (graph_of u) ≡ all_parts (added c (graph_of t)) = ap all_parts (reads_as t c fit more.0) in
      omega (arith, more.1, so, processes_read t, processes_read u, variables_read t, variables_read u)
