-- Calls on a run one after the other, whatever they answer, and the time since a clock was reset.
use Rattle.std.specs.Prelude.{ℕ, ◌+◌, ◌≡◌, Bool, true, false, not, cond, List, [], ◌∷◌, eqb, ⊤}
use Rattle.laws.specs.Below.{◌and◌, any_below}
use Rattle.graph_tables.specs.Answers.{Answer, answer_number}
use Rattle.graph_tables.specs.declared.handed.Message.{Message}
use Rattle.graph_tables.specs.Words.{reset_count, reset_at, epsilon}
use Rattle.program_graph.specs.Running.{transition_of, wait_of}
use Rattle.program_graph.specs.Messaging.{send_of, receive_of}
use Rattle.program_graph.specs.declared.record.ProgramGraphRun.{ProgramGraphRun}

-- a call on a run, with what is handed to it: an action, posts and a word or a message; or a delta
pub data RunCall : Type 0 where
  transition : ℕ → List ℕ → ℕ → RunCall
  wait : ℕ → RunCall
  send : ℕ → List ℕ → ℕ → RunCall
  receive : ℕ → List ℕ → Message → RunCall

-- what a call answers
abbrev pub answer_to : List ℕ → ProgramGraphRun → RunCall → Answer ⊤
answer_to t run (transition a posts word) = (transition_of t run a posts word).answer
answer_to t run (wait delta) = (wait_of t run delta).answer
answer_to t run (send a posts word) = (send_of t run a posts word).answer
answer_to t run (receive a posts m) = (receive_of t run a posts m).answer

-- the run after a call
abbrev pub run_after : List ℕ → ProgramGraphRun → RunCall → ProgramGraphRun
run_after t run (transition a posts word) = (transition_of t run a posts word).run
run_after t run (wait delta) = (wait_of t run delta).run
run_after t run (send a posts word) = (send_of t run a posts word).run
run_after t run (receive a posts m) = (receive_of t run a posts m).run

-- the run after a chain of calls
abbrev pub run_after_all : List ℕ → ProgramGraphRun → List RunCall → ProgramGraphRun
run_after_all t run [] = run
run_after_all t run (call ∷ calls) = run_after_all t (run_after t run call) calls

-- ---- the time since a clock was reset
abbrev pub is_accepted : Answer ⊤ → Bool
is_accepted d = eqb (answer_number d) 0

-- reset i of action a is of clock c
unfoldable pub reset_is : List ℕ → ℕ → ℕ → ℕ → Bool
reset_is t a c i = eqb (reset_at t a i) c

-- a step by action a resets clock c; EPSILON resets none
unfoldable pub resets_clock : List ℕ → ℕ → ℕ → Bool
resets_clock t a c = not (eqb a epsilon) and any_below (reset_count t a) (reset_is t a c)

-- the time since clock c was reset once a call is accepted, if it was x before
abbrev pub time_on : List ℕ → ℕ → RunCall → ℕ → ℕ
time_on t c (transition a posts word) x = cond (resets_clock t a c) 0 x
time_on t c (wait delta) x = x + delta
time_on t c (send a posts word) x = x
time_on t c (receive a posts m) x = x

-- After a chain of calls, the sum of the deltas of the accepted waits since the last accepted step that resets clock c; where there
-- is none, of all accepted waits and the time x before the chain.
abbrev pub since_reset : List ℕ → ℕ → ProgramGraphRun → List RunCall → ℕ → ℕ
since_reset t c run [] x = x
since_reset t c run (call ∷ calls) x =
    since_reset t c (run_after t run call) calls (cond (is_accepted (answer_to t run call)) (time_on t c call x) x)

-- ---- the same in two parts: the last accepted reset, and the accepted waits behind it
-- the time that a call takes
abbrev pub delta_of : RunCall → ℕ
delta_of (transition a posts word) = 0
delta_of (wait delta) = delta
delta_of (send a posts word) = 0
delta_of (receive a posts m) = 0

-- the sum of the accepted waits of a chain
abbrev pub accepted_waits : List ℕ → ProgramGraphRun → List RunCall → ℕ
accepted_waits t run [] = 0
accepted_waits t run (call ∷ calls) = cond (is_accepted (answer_to t run call)) (delta_of call) 0 + accepted_waits t (run_after t run call) calls

-- a call would reset clock c
abbrev pub reset_by : List ℕ → ℕ → RunCall → Bool
reset_by t c (transition a posts word) = resets_clock t a c
reset_by t c (wait delta) = false
reset_by t c (send a posts word) = false
reset_by t c (receive a posts m) = false

-- no accepted call of a chain resets clock c
abbrev pub NoReset : List ℕ → ℕ → ProgramGraphRun → List RunCall → Type 0
NoReset t c run [] = Unit {0}
NoReset t c run (call ∷ calls) =
    (is_accepted (answer_to t run call) ≡ true → reset_by t c call ≡ false) × NoReset t c (run_after t run call) calls
