-- The graph's own send and receive: the answer, the values, and the run afterwards (docs/RULES.md, 'Messages').
use Rattle.std.specs.Prelude.{ℕ, not, List, eqb, length, Err}
use Rattle.graph_tables.specs.Answers.{admitted}
use Rattle.laws.specs.Ladder.{unless}
use Rattle.graph_tables.specs.Sizes.{send_kind, receive_kind}
use Rattle.graph_tables.specs.Refusals.{refusal}
use Rattle.graph_tables.specs.declared.handed.Message.{Message}
use Rattle.graph_tables.specs.Words.{effect_count, epsilon}
use Rattle.run_steps.specs.Steps.{is_kind}
use Rattle.run_steps.specs.Messages.{spoken_of, message_of, no_message, message_fits, taken_of}
use Rattle.program_graph.specs.Running.{refused, accepted, fits_table, ready_still, moved_to}
use Rattle.program_graph.specs.declared.record.ProgramGraphRun.{ProgramGraphRun}
use Rattle.program_graph.specs.Outcomes.{Sent, RunOutcome}

-- ---- a send: its values come from the variables as they are; variables and clocks stay
abbrev pub refused_send : ℕ → ProgramGraphRun → Sent
refused_send n run = record { answer = Err (refusal n); message = no_message; run = run }

-- 26 if an expression has no value
unfoldable pub said_of : List ℕ → ProgramGraphRun → ℕ → List ℕ → ℕ → Sent
said_of t run a posts word =
    unless (spoken_of t a run.vars word).fits (refused_send 26 run)
    record {
      answer = admitted;
      message = message_of (spoken_of t a run.vars word).values (effect_count t a);
      run = moved_to run posts run.vars run.times;
    }

-- EPSILON first (14); 7, 8, then the kind (14)
unfoldable pub sent_of : List ℕ → ProgramGraphRun → ℕ → List ℕ → ℕ → Sent
sent_of t run a posts word =
    unless (not (eqb a epsilon)) (refused_send 14 run)
    (unless (eqb (length posts) run.processes) (refused_send 7 run)
    (unless (ready_still t run a posts) (refused_send 8 run)
    (unless (is_kind t a send_kind) (refused_send 14 run)
    (said_of t run a posts word))))

unfoldable pub send_of : List ℕ → ProgramGraphRun → ℕ → List ℕ → ℕ → Sent
send_of t run a posts word = unless (fits_table t run) (refused_send 32 run) (sent_of t run a posts word)

-- ---- a receive: its variables take the values; clocks stay
-- 5 unless the message has a value of its kind for each variable
unfoldable pub heard_of : List ℕ → ProgramGraphRun → ℕ → List ℕ → Message → RunOutcome
heard_of t run a posts m =
    unless (message_fits t a m) (refused 5 run)
    (accepted (moved_to run posts (taken_of t a m run.vars) run.times))

-- EPSILON first (15); 7, 8, then the kind (15)
unfoldable pub received_of : List ℕ → ProgramGraphRun → ℕ → List ℕ → Message → RunOutcome
received_of t run a posts m =
    unless (not (eqb a epsilon)) (refused 15 run)
    (unless (eqb (length posts) run.processes) (refused 7 run)
    (unless (ready_still t run a posts) (refused 8 run)
    (unless (is_kind t a receive_kind) (refused 15 run)
    (heard_of t run a posts m))))

unfoldable pub receive_of : List ℕ → ProgramGraphRun → ℕ → List ℕ → Message → RunOutcome
receive_of t run a posts m = unless (fits_table t run) (refused 32 run) (received_of t run a posts m)
