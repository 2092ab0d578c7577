-- Building one graph (docs/RULES.md, 'Building'). Each call gives an answer and the table afterwards; a refusal leaves every word.
use Rattle.std.specs.Prelude.{ℕ, Bool, true, false, cond, List, [], eqb, ltb, length, set, Ok, Err, ⊤}
use Rattle.graph_tables.specs.Answers.{Answer, admitted}
use Rattle.laws.specs.Ladder.{unless}
use Rattle.grammar.specs.Values.{kind_of, kind_word}
use Rattle.grammar.specs.Bits.{bits_of}
use Rattle.grammar.specs.declared.values.«Type».{«Type»}
use Rattle.grammar.specs.declared.values.«Type».TheVariants as Kind
use Rattle.grammar.specs.declared.values.Val.{Val}
use Rattle.grammar.specs.declared.values.Val.TheVariants.{Boolean, Integer}
use Rattle.graph_tables.specs.Layout.{table_words, variables_cell, clocks_cell, locations_cell, actions_cell, processes_cell, transitions_cell}
use Rattle.graph_tables.specs.Sizes.{plain_kind}
use Rattle.graph_tables.specs.declared.refusals.Refusal.{Refusal}
use Rattle.graph_tables.specs.Refusals.{refusal}
use Rattle.graph_tables.specs.declared.handed.Limits.{Limits}
use Rattle.graph_tables.specs.declared.handed.Vars.{Vars}
use Rattle.graph_tables.specs.Words.{variable_count, clock_count, location_count, action_count, process_count, kind_at, key_with}
use Rattle.graph_tables.specs.Formed.{well_formed}
use Rattle.graph_edits.specs.Edits.{with_var, with_clock, with_action, with_process, with_location, with_reset, with_effect, with_send, with_receive}
use Rattle.graph_edits.specs.Edits.{with_transition}
use Rattle.graph_checks.specs.Checks.{var_check, clock_check, action_check, process_check, reset_check, effect_check, send_check, receive_check}
use Rattle.graph_checks.specs.Checks.{location_check, initial_check, transition_check}

pub record Outcome (A : Type 0) : Type 0 where
  pub answer : A
  pub table : List ℕ

abbrev pub refused_with : Refusal → List ℕ → Outcome (Answer ℕ)
refused_with r t = record { answer = Err r; table = t }

abbrev pub placed_at : ℕ → List ℕ → Outcome (Answer ℕ)
placed_at n t = record { answer = Ok n; table = t }

abbrev pub not_done : Refusal → List ℕ → Outcome (Answer ⊤)
not_done r t = record { answer = Err r; table = t }

abbrev pub done_with : List ℕ → Outcome (Answer ⊤)
done_with t = record { answer = admitted; table = t }

-- the counts alone are written in an empty table
abbrev pub no_parts : List ℕ → List ℕ
no_parts t =
    set (set (set (set (set (set t variables_cell 0) clocks_cell 0) locations_cell 0) actions_cell 0) processes_cell 0) transitions_cell 0

unfoldable pub empty_of : List ℕ → Outcome (Answer ⊤)
empty_of t = unless (eqb (length t) table_words) (not_done (refusal 32) t) (done_with (no_parts t))

-- ---- calls that ask a check first: a refusal leaves every word
abbrev pub done_if : Answer ⊤ → List ℕ → List ℕ → Outcome (Answer ⊤)
done_if (Ok _) t after = done_with after
done_if (Err r) t after = not_done r t

-- the new part has this number
abbrev pub placed_if : Answer ⊤ → List ℕ → ℕ → List ℕ → Outcome (Answer ℕ)
placed_if (Ok _) t n after = placed_at n after
placed_if (Err r) t n after = refused_with r t

-- the value of a variable at the start, as bits
abbrev pub payload_of : Val → ℕ
payload_of (Boolean false) = 0
payload_of (Boolean true) = 1
payload_of (Integer n) = bits_of n

unfoldable pub new_var_of : List ℕ → Val → Outcome (Answer ℕ)
new_var_of t v = placed_if (var_check t) t (variable_count t) (with_var t (kind_word (kind_of v)) (payload_of v))

unfoldable pub var_type_of : List ℕ → ℕ → Answer «Type»
var_type_of t v =
    unless (well_formed t true) (Err (refusal 32))
    (unless (ltb v (variable_count t)) (Err (refusal 4))
    (cond (eqb (kind_at t v) 0) (Ok Kind.Boolean) (Ok Kind.Integer)))

unfoldable pub new_clock_of : List ℕ → Outcome (Answer ℕ)
new_clock_of t = placed_if (clock_check t) t (clock_count t) (with_clock t)

unfoldable pub new_action_of : List ℕ → Outcome (Answer ℕ)
new_action_of t = placed_if (action_check t) t (action_count t) (with_action t plain_kind 0)

unfoldable pub new_process_of : List ℕ → ℕ → Outcome (Answer ⊤)
new_process_of t l = done_if (process_check t l) t (with_process t l)

-- a graph can be run when it has a process: else 29
unfoldable pub build_of : List ℕ → Answer ⊤
build_of t =
    unless (well_formed t true) (Err (refusal 32))
    (unless (ltb 0 (process_count t)) (Err (refusal 29)) admitted)

unfoldable pub add_reset_of : List ℕ → ℕ → ℕ → Outcome (Answer ⊤)
add_reset_of t a clock = done_if (reset_check t a clock) t (with_reset t a clock)

unfoldable pub add_effect_of : List ℕ → ℕ → ℕ → List ℕ → Outcome (Answer ⊤)
add_effect_of t a v ws = done_if (effect_check t a v ws) t (with_effect t a v ws)

-- m has the expressions, count says how many
unfoldable pub new_send_of : List ℕ → (ℕ → List ℕ) → ℕ → Outcome (Answer ℕ)
new_send_of t m count = placed_if (send_check t m count) t (action_count t) (with_send t m count)

unfoldable pub new_receive_of : List ℕ → Vars → Outcome (Answer ℕ)
new_receive_of t v = placed_if (receive_check t v) t (action_count t) (with_receive t v)

unfoldable pub new_timed_location_of : List ℕ → Limits → Outcome (Answer ℕ)
new_timed_location_of t l = placed_if (location_check t l) t (location_count t) (with_location t l)

-- the process and its location go in together, or neither does
unfoldable pub new_initial_of : List ℕ → Limits → Outcome (Answer ℕ)
new_initial_of t l = placed_if (initial_check t l) t (location_count t) (with_location (with_process t (location_count t)) l)

-- a transition may have no guard: it has no items then
abbrev pub guard_of : Bool → List ℕ → List ℕ
guard_of true ws = ws
guard_of false ws = []

unfoldable pub add_transition_of : List ℕ → ℕ → ℕ → ℕ → Bool → List ℕ → Limits → Outcome (Answer ⊤)
add_transition_of t pre a post guarded ws l =
    done_if (transition_check t pre a post guarded ws l) t (with_transition t (key_with pre a post) (guard_of guarded ws) l)
