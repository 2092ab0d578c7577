-- Marked examples of one graph; and with those of the crates below, one list.
use Rattle.std.specs.Prelude.{ℕ, false, List, [], ◌∷◌, map, pos, set, replicate, Ok}
use Rattle.grammar.specs.declared.values.Val.{Val}
use Rattle.laws.specs.Examples.{Examples, end, gives}
use Rattle.time.specs.Marked.{examples as time-examples}
use Rattle.time.specs.Time.{range_of}
use Rattle.time.specs.declared.Bound.{Bound}
use Rattle.time.specs.declared.Bound.TheVariants.{Included, Unbounded}
use Rattle.grammar.specs.Marked.{examples as grammar-examples}
use Rattle.grammar.specs.Items.{word_of}
use Rattle.grammar.specs.declared.values.Val.TheVariants.{Integer}
use Rattle.grammar.specs.declared.items.Binary.TheVariants.{Add}
use Rattle.grammar.specs.declared.items.Item.TheVariants.{Constant, Variable, Binary}
use Rattle.graph_tables.specs.Layout.{table_words}
use Rattle.graph_tables.specs.Handed.{no_limits}
use Rattle.graph_tables.specs.declared.handed.Limits.{Limits}
use Rattle.graph_tables.specs.Answers.{Answer, answer_number}
use Rattle.graph_builder.specs.Building.{empty_of}
use Rattle.graph_builder.specs.Chains.{Call, new_var, new_clock, new_action, add_reset, add_effect, new_timed_location}
use Rattle.graph_builder.specs.Chains.{new_initial_location, add_transition, after_all}
use Rattle.program_graph.specs.Running.{new_run_of, transition_of, wait_of, value_in}

-- the examples of two lists
abbrev pub both : Examples → Examples → Examples
both end b = b
both (gives x y rest) b = gives x y (both rest b)

-- the graph that these calls build
abbrev graph : List Call → List ℕ
graph calls = after_all (empty_of (replicate table_words 0)).table calls

-- a limit on the first clock
abbrev within : Bound → Bound → Limits
within lower upper =
    record { limits = set no_limits.limits 0 (record { clock = record { 0 = 0 }; range = range_of lower upper }); count = 1 }

abbrev at_most : ℕ → Limits
at_most n = within Unbounded (Included n)

abbrev at_least : ℕ → Limits
at_least n = within (Included n) Unbounded

-- what a fresh run of a graph answers to a wait
abbrev waits : List ℕ → ℕ → ℕ
waits t delta = answer_number (wait_of t (new_run_of t).run delta).answer

-- one location, where c <= 5
abbrev still : List ℕ
still = graph (new_clock ∷ new_initial_location (at_most 5) ∷ [])

-- from a location to one where c <= 5, by an action that does this, within these limits
abbrev entered : List Call → Limits → List ℕ
entered does limits =
    graph
    (new_clock ∷ new_action ∷ new_initial_location no_limits ∷ new_timed_location (at_most 5)
    ∷ add_transition 0 0 1 false [] limits ∷ does)

abbrev resets : List Call
resets = add_reset 0 0 ∷ []

-- what a run of it answers to the step at c = 7
abbrev enters : List ℕ → ℕ
enters t = answer_number (transition_of t (wait_of t (new_run_of t).run 7).run 0 (1 ∷ []) 0).answer

-- v and u, both 0, and an action that does v := v + 1, u := v
abbrev counting : List ℕ
counting =
    graph
    (new_var (Integer (pos 0)) ∷ new_var (Integer (pos 0)) ∷ new_action
    ∷ add_effect 0 0 (map word_of (Variable 0 ∷ Constant (Integer (pos 1)) ∷ Binary Add ∷ []))
    ∷ add_effect 0 1 (map word_of (Variable 0 ∷ []))
    ∷ new_initial_location no_limits ∷ add_transition 0 0 0 false [] no_limits ∷ [])

-- the value of u after a step
abbrev counted : List ℕ → Answer Val
counted t = value_in t (transition_of t (new_run_of t).run 0 (0 ∷ []) 0).run 1

abbrev pub graph_examples : Examples
graph_examples =
    -- W1 valid state, wait 0: ok
    gives (waits still 0) 0
    -- W2 invariant c <= 5, c = 0, wait 5: ok
    (gives (waits still 5) 0
    -- W3 wait 6: 9
    (gives (waits still 6) 9
    -- W4 c = 7, post-invariant c <= 5, action resets c: ok
    (gives (enters (entered resets no_limits)) 0
    -- W5 no reset: 8
    (gives (enters (entered [] no_limits)) 8
    -- W6 limit c >= 3, c = 7, same reset: ok
    (gives (enters (entered resets (at_least 3))) 0
    -- W13 v := v + 1, u := v from v = 0: u = 1
    (gives (counted counting) (Ok (Integer (pos 1)))
    end))))))

-- W7 is an example of time ranges, W8 and W9 of expressions
abbrev pub examples : Examples
examples = both graph_examples (both time-examples grammar-examples)
