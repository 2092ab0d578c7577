-- What a user of a run relies on, by the files that have it. docs/STATEMENTS.md says each in a sentence.

-- A refused call gives back the run that was handed in.
pub use Rattle.program_graph.proofs.RunTheorems.{transition_refused, wait_refused, send_refused, receive_refused}
-- A plain step, and a step by EPSILON, is accepted exactly when it should be, and answers each number exactly when.
pub use Rattle.program_graph.proofs.RunExactly.{plain_asked, autonomous_asked, plain_past_guards, plain_accepted, plain_overflow}
pub use Rattle.program_graph.proofs.RunExactly.{plain_unsatisfied, autonomous_accepted}
-- A wait is accepted exactly when no clock passes the last time and every invariant holds at its end.
pub use Rattle.program_graph.proofs.RunTheorems.{wait_exactly, can_wait_exactly, wait_holds_throughout}
pub use Rattle.program_graph.proofs.WaitingExactly.{is_waiting_exactly}
-- Where processes, clocks and variables are after an accepted step.
pub use Rattle.program_graph.proofs.RunTheorems.{step_moves, plain_resets, plain_other_clock, plain_other_variable}
pub use Rattle.program_graph.proofs.VariableTheorems.{plain_assigns}
-- After any chain of calls from a fresh run: no 32, every invariant holds, every clock reads the accepted waits since its last accepted reset.
pub use Rattle.program_graph.proofs.RunChains.{chain_known, chain_invariants}
pub use Rattle.program_graph.proofs.ClockTheorems.{since_its_reset, never_reset}
-- While the table grows between calls.
pub use Rattle.program_graph.proofs.GrowingChains.{fits_exactly, growing_known, growing_bad, growing_builds, clock_goes_on}
pub use Rattle.program_graph.proofs.GrowingChains.{clock_since_reset, added_reset}
pub use Rattle.program_graph.proofs.BuiltRuns.{built_known}
-- A public call answers as its inner form, and slots past the counts come back as they went in.
pub use Rattle.program_graph.proofs.SpareLaws.{transition_inner, wait_inner, send_inner, receive_inner, step_spare, wait_spare, send_spare}
pub use Rattle.program_graph.proofs.SpareLaws.{receive_spare}
pub use Rattle.program_graph.proofs.OverLaws.{step_same, wait_same, send_same, receive_same}
pub use Rattle.program_graph.proofs.LeaveLaws.{leaves_back}
