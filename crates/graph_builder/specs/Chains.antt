-- Building calls one after the other, whatever they answer.
use Rattle.std.specs.Prelude.{ℕ, Bool, List, [], ◌∷◌}
use Rattle.grammar.specs.Slots.{FitVal}
use Rattle.grammar.specs.declared.values.Val.{Val}
use Rattle.graph_tables.specs.declared.handed.Limits.{Limits}
use Rattle.graph_tables.specs.declared.handed.Vars.{Vars}
use Rattle.graph_tables.specs.Answers.{answer_number}
use Rattle.graph_edits.specs.Edits.{LimitsFit}
use Rattle.graph_builder.specs.Building.{new_var_of, new_clock_of, new_action_of, new_process_of, add_reset_of, add_effect_of, new_send_of}
use Rattle.graph_builder.specs.Building.{new_receive_of, new_timed_location_of, new_initial_of, add_transition_of}

-- a call, with what is handed to it
pub data Call : Type 0 where
  new_var : Val → Call
  new_clock : Call
  new_action : Call
  new_process : ℕ → Call
  add_reset : ℕ → ℕ → Call
  add_effect : ℕ → ℕ → List ℕ → Call
  new_send : (ℕ → List ℕ) → ℕ → Call
  new_receive : Vars → Call
  new_timed_location : Limits → Call
  new_initial_location : Limits → Call
  add_transition : ℕ → ℕ → ℕ → Bool → List ℕ → Limits → Call

-- the table after a call
abbrev pub after : List ℕ → Call → List ℕ
after t (new_var v) = (new_var_of t v).table
after t new_clock = (new_clock_of t).table
after t new_action = (new_action_of t).table
after t (new_process l) = (new_process_of t l).table
after t (add_reset a clock) = (add_reset_of t a clock).table
after t (add_effect a v ws) = (add_effect_of t a v ws).table
after t (new_send m count) = (new_send_of t m count).table
after t (new_receive v) = (new_receive_of t v).table
after t (new_timed_location l) = (new_timed_location_of t l).table
after t (new_initial_location l) = (new_initial_of t l).table
after t (add_transition pre a post guarded ws l) = (add_transition_of t pre a post guarded ws l).table

-- the number of its answer: 0 for ok, else the refusal's
abbrev pub answer_of : List ℕ → Call → ℕ
answer_of t (new_var v) = answer_number (new_var_of t v).answer
answer_of t new_clock = answer_number (new_clock_of t).answer
answer_of t new_action = answer_number (new_action_of t).answer
answer_of t (new_process l) = answer_number (new_process_of t l).answer
answer_of t (add_reset a clock) = answer_number (add_reset_of t a clock).answer
answer_of t (add_effect a v ws) = answer_number (add_effect_of t a v ws).answer
answer_of t (new_send m count) = answer_number (new_send_of t m count).answer
answer_of t (new_receive v) = answer_number (new_receive_of t v).answer
answer_of t (new_timed_location l) = answer_number (new_timed_location_of t l).answer
answer_of t (new_initial_location l) = answer_number (new_initial_of t l).answer
answer_of t (add_transition pre a post guarded ws l) = answer_number (add_transition_of t pre a post guarded ws l).answer

-- handed integers and times have 32 bits
abbrev pub Fits : Call → Type 0
Fits (new_var v) = FitVal v
Fits new_clock = Unit {0}
Fits new_action = Unit {0}
Fits (new_process l) = Unit {0}
Fits (add_reset a clock) = Unit {0}
Fits (add_effect a v ws) = Unit {0}
Fits (new_send m count) = Unit {0}
Fits (new_receive v) = Unit {0}
Fits (new_timed_location l) = LimitsFit l
Fits (new_initial_location l) = LimitsFit l
Fits (add_transition pre a post guarded ws l) = LimitsFit l

-- the table after a chain of calls
abbrev pub after_all : List ℕ → List Call → List ℕ
after_all t [] = t
after_all t (c ∷ calls) = after_all (after t c) calls

abbrev pub AllFit : List Call → Type 0
AllFit [] = Unit {0}
AllFit (c ∷ calls) = Fits c × AllFit calls
