-- What a call on a run comes to: its answer, what it tells, and the run afterwards. Each call of src/ answers a Result and changes
-- the run in place; here both stand in one record.
use Rattle.std.specs.Prelude.{ℕ, List, replicate, Ok, Err, ⊤}
use Rattle.graph_tables.specs.Answers.{Answer, admitted}
use Rattle.graph_tables.specs.Sizes.{process_room}
use Rattle.graph_tables.specs.declared.handed.Message.{Message}
use Rattle.run_steps.specs.Messages.{no_message}
use Rattle.program_graph.specs.declared.record.ProgramGraphRun.{ProgramGraphRun}
use Rattle.program_graph.specs.declared.answers.Places.{Places}

-- ---- a fresh run, a step, a wait, a receive
pub record RunOutcome : Type 0 where
  pub answer : Answer ⊤
  pub run : ProgramGraphRun

abbrev pub outcome : Answer ⊤ → ProgramGraphRun → RunOutcome
outcome answer run = record { answer = answer; run = run }

-- ---- a send: a refused one says no values
pub record Sent : Type 0 where
  pub answer : Answer ⊤
  pub message : Message
  pub run : ProgramGraphRun

abbrev pub accepts : {A : Type 0} → Answer A → Answer ⊤
accepts (Ok _) = admitted
accepts (Err r) = Err r

abbrev pub values_said : Answer Message → Message
values_said (Ok m) = m
values_said (Err _) = no_message

abbrev pub sent : Answer Message → ProgramGraphRun → Sent
sent said run = record { answer = accepts said; message = values_said said; run = run }

-- ---- where the processes are: none where that is refused
pub record States : Type 0 where
  pub answer : Answer ⊤
  pub places : List ℕ
  pub count : ℕ

abbrev pub states : Answer Places → States
states (Ok p) = record { answer = admitted; places = p.places; count = p.count }
states (Err r) = record { answer = Err r; places = replicate process_room 0; count = 0 }
