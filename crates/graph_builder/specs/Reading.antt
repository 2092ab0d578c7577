-- A table read as one graph, and what each accepted call adds to it (docs/RULES.md, 'Building'): one part in its place, and nothing else.
use Rattle.std.specs.Prelude.{ℕ, ◌+◌, cond, List, [], ◌∷◌, ◌++◌, eqb, length}
use Rattle.grammar.specs.declared.values.Val.{Val}
use Rattle.graph_tables.specs.declared.handed.Limits.{Limits}
use Rattle.graph_tables.specs.Handed.{handed_var}
use Rattle.graph_tables.specs.Words.{clock_count}
use Rattle.graph_edits.specs.Lists.{list_of, insert_sorted, changed_at, variables_of, places_of, StoredLimit, locations_of, sorted_limits}
use Rattle.graph_edits.specs.Lists.{StoredAction, plain, send, receive, actions_of, StoredTransition, key_in, transitions_of}
use Rattle.graph_builder.specs.Building.{guard_of}
use Rattle.graph_builder.specs.Chains.{Call, new_var, new_clock, new_action, new_process, add_reset, add_effect, new_send}
use Rattle.graph_builder.specs.Chains.{new_receive, new_timed_location, new_initial_location, add_transition, after, answer_of}

-- a graph, part by part; the number of a part is its place in its list
pub record Graph : Type 0 where
  -- variables: a value at the start, of its kind
  pub variables : List Val
  -- how many clocks there are
  pub clocks : ℕ
  -- locations: their invariants, in the order of their clocks
  pub locations : List (List StoredLimit)
  -- processes: the location where each starts
  pub processes : List ℕ
  -- actions: resets and effects, or what a message sends, or what takes it
  pub actions : List StoredAction
  -- transitions, in the order of (pre, action, post)
  pub transitions : List StoredTransition

-- a table as a graph
abbrev pub graph_of : List ℕ → Graph
graph_of t = record {
  variables = variables_of t;
  clocks = clock_count t;
  locations = locations_of t;
  processes = places_of t;
  actions = actions_of t;
  transitions = transitions_of t;
}

-- a graph without parts
abbrev pub empty_graph : Graph
empty_graph = record { variables = []; clocks = 0; locations = []; processes = []; actions = []; transitions = [] }

-- ---- one list of a graph is another, and the rest is as it was
abbrev graph : List Val → ℕ → List (List StoredLimit) → List ℕ → List StoredAction → List StoredTransition → Graph
graph v c l p a t = record { variables = v; clocks = c; locations = l; processes = p; actions = a; transitions = t }

abbrev pub variables_now : Graph → List Val → Graph
variables_now g x = graph x g.clocks g.locations g.processes g.actions g.transitions

abbrev pub clocks_now : Graph → ℕ → Graph
clocks_now g x = graph g.variables x g.locations g.processes g.actions g.transitions

abbrev pub locations_now : Graph → List (List StoredLimit) → Graph
locations_now g x = graph g.variables g.clocks x g.processes g.actions g.transitions

abbrev pub processes_now : Graph → List ℕ → Graph
processes_now g x = graph g.variables g.clocks g.locations x g.actions g.transitions

abbrev pub actions_now : Graph → List StoredAction → Graph
actions_now g x = graph g.variables g.clocks g.locations g.processes x g.transitions

abbrev pub transitions_now : Graph → List StoredTransition → Graph
transitions_now g x = graph g.variables g.clocks g.locations g.processes g.actions x

-- ---- parts
-- a reset among the others, before the first clock that is greater; only a plain action takes one
abbrev pub with_clock_reset : ℕ → StoredAction → StoredAction
with_clock_reset clock (plain resets effects) = plain (insert_sorted (λ (c : ℕ). c) clock resets) effects
with_clock_reset clock (send expressions) = send expressions
with_clock_reset clock (receive vars) = receive vars

-- an effect behind the others; only a plain action takes one
abbrev pub with_assignment : ℕ → List ℕ → StoredAction → StoredAction
with_assignment v ws (plain resets effects) = plain resets (effects ++ (record { var = v; items = ws } ∷ []))
with_assignment v ws (send expressions) = send expressions
with_assignment v ws (receive vars) = receive vars

-- limits as a list, in the order of their clocks
abbrev pub in_order : Limits → List StoredLimit
in_order l = sorted_limits l l.count

-- ---- what an accepted call adds
abbrev pub added : Call → Graph → Graph
added (new_var v) g = variables_now g (g.variables ++ (v ∷ []))
added new_clock g = clocks_now g (g.clocks + 1)
added new_action g = actions_now g (g.actions ++ (plain [] [] ∷ []))
added (new_process l) g = processes_now g (g.processes ++ (l ∷ []))
added (add_reset a clock) g = actions_now g (changed_at a (with_clock_reset clock) g.actions)
added (add_effect a v ws) g = actions_now g (changed_at a (with_assignment v ws) g.actions)
added (new_send m count) g = actions_now g (g.actions ++ (send (list_of m count) ∷ []))
added (new_receive v) g = actions_now g (g.actions ++ (receive (list_of (handed_var v) v.count) ∷ []))
added (new_timed_location l) g = locations_now g (g.locations ++ (in_order l ∷ []))
added (new_initial_location l) g =
    processes_now (locations_now g (g.locations ++ (in_order l ∷ []))) (g.processes ++ (length g.locations ∷ []))
added (add_transition pre a post guarded ws l) g =
    transitions_now g
    (insert_sorted key_in (record { pre = pre; action = a; post = post; guard = guard_of guarded ws; limits = in_order l }) g.transitions)

-- what a chain of calls on a table adds: what each accepted one does, in turn
abbrev pub added_all : List ℕ → List Call → Graph → Graph
added_all t [] g = g
added_all t (c ∷ calls) g = added_all (after t c) calls (cond (eqb (answer_of t c) 0) (added c g) g)
