-- A run in lent words: 32 unless it is one of the table's; then what the call on the run that the words stand for answers and leaves.
use Rattle.std.specs.Prelude.{ℕ, Bool, false, List, [], ◌∷◌, eqb, length, get_or, Err, ⊤}
use Rattle.graph_tables.specs.Answers.{Answer, admitted}
use Rattle.graph_tables.specs.declared.answers.Entry.{Entry}
use Rattle.grammar.specs.declared.values.Val.{Val}
use Rattle.std.specs.declared.option.Option.{Option}
use Rattle.laws.specs.Ladder.{unless}
use Rattle.laws.specs.Below.{◌and◌}
use Rattle.graph_tables.specs.RunWords.{run_words}
use Rattle.graph_tables.specs.Formed.{well_formed}
use Rattle.graph_tables.specs.Refusals.{refusal}
use Rattle.graph_tables.specs.declared.handed.Message.{Message}
use Rattle.run_steps.specs.Messages.{no_message}
use Rattle.program_graph.specs.declared.record.ProgramGraphRun.{ProgramGraphRun}
use Rattle.program_graph.specs.Fits.{run_words_fit}
use Rattle.program_graph.specs.Inner.{run_at}
use Rattle.program_graph.specs.FreshWords.{fresh_words}
use Rattle.program_graph.specs.Running.{transition_of, wait_of, can_wait_of, is_waiting_of, value_in, time_of, states_of}
use Rattle.program_graph.specs.Messaging.{send_of, receive_of}
use Rattle.program_graph.specs.Transitions.{possible_of, nosync_of}
use Rattle.program_graph.specs.Written.{words_of}
use Rattle.program_graph.specs.Outcomes.{States}
use Rattle.channel_system.specs.Steps.{left_by}
use Rattle.c_words.specs.Told.{Told, answer_told, number_said, refusing, done_saying}

unfoldable pub run_fits : List ℕ → List ℕ → Bool
run_fits t r = well_formed t false and (eqb (length r) run_words and run_words_fit t r)

-- ---- calls that change a run: the answer, and the words afterwards. A refusal leaves every word
pub record Moved : Type 0 where
  pub answer : Answer ⊤
  pub words : List ℕ

abbrev pub bad_run : List ℕ → Moved
bad_run r = record { answer = Err (refusal 32); words = r }

unfoldable pub moved_as : List ℕ → List ℕ → Answer ⊤ → ProgramGraphRun → Moved
moved_as t r d run = unless (run_fits t r) (bad_run r) (record { answer = d; words = left_by d r (words_of t r run) })

-- a fresh run, over any words
unfoldable pub new_run_at : List ℕ → List ℕ → Moved
new_run_at t r =
    unless (well_formed t false) (bad_run r)
    (unless (eqb (length r) run_words) (bad_run r) (record { answer = admitted; words = fresh_words t r }))

abbrev pub transition_at : List ℕ → List ℕ → ℕ → List ℕ → ℕ → Moved
transition_at t r a posts word = moved_as t r (transition_of t (run_at r) a posts word).answer (transition_of t (run_at r) a posts word).run

abbrev pub wait_at : List ℕ → List ℕ → ℕ → Moved
wait_at t r delta = moved_as t r (wait_of t (run_at r) delta).answer (wait_of t (run_at r) delta).run

abbrev pub send_at : List ℕ → List ℕ → ℕ → List ℕ → ℕ → Moved
send_at t r a posts word = moved_as t r (send_of t (run_at r) a posts word).answer (send_of t (run_at r) a posts word).run

-- a send that is refused says nothing
unfoldable pub said_at : List ℕ → List ℕ → ℕ → List ℕ → ℕ → Message
said_at t r a posts word = unless (run_fits t r) no_message (send_of t (run_at r) a posts word).message

abbrev pub receive_at : List ℕ → List ℕ → ℕ → List ℕ → Message → Moved
receive_at t r a posts m = moved_as t r (receive_of t (run_at r) a posts m).answer (receive_of t (run_at r) a posts m).run

-- ---- calls that read one
unfoldable pub can_wait_at : List ℕ → List ℕ → ℕ → Answer Bool
can_wait_at t r delta = unless (run_fits t r) (Err (refusal 32)) (can_wait_of t (run_at r) delta)

unfoldable pub is_waiting_at : List ℕ → List ℕ → Answer Bool
is_waiting_at t r = unless (run_fits t r) (Err (refusal 32)) (is_waiting_of t (run_at r))

unfoldable pub possible_at : List ℕ → List ℕ → ℕ → Answer (Option Entry)
possible_at t r k = unless (run_fits t r) (Err (refusal 32)) (possible_of t (run_at r) k)

unfoldable pub nosync_at : List ℕ → List ℕ → ℕ → Answer (Option Entry)
nosync_at t r k = unless (run_fits t r) (Err (refusal 32)) (nosync_of t (run_at r) k)

unfoldable pub value_at : List ℕ → List ℕ → ℕ → Answer Val
value_at t r v = unless (run_fits t r) (Err (refusal 32)) (value_in t (run_at r) v)

unfoldable pub time_at : List ℕ → List ℕ → ℕ → Answer ℕ
time_at t r c = unless (run_fits t r) (Err (refusal 32)) (time_of t (run_at r) c)

abbrev pub time_told : Answer ℕ → Told
time_told = answer_told number_said

-- how many processes, then four places; those past the count say nothing
abbrev pub states_told : States → Told
states_told s =
    done_saying s.answer
    (s.count ∷ get_or s.places 0 0 ∷ get_or s.places 1 0 ∷ get_or s.places 2 0 ∷ get_or s.places 3 0 ∷ [])

unfoldable pub states_at : List ℕ → List ℕ → Told
states_at t r = unless (run_fits t r) (refusing (refusal 32)) (states_told (states_of t (run_at r)))
