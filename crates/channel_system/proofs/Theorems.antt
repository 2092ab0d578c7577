-- What a user of a system relies on, by the files that have it. docs/STATEMENTS.md says each in a sentence.

-- Demand 3, whole: from what `new_instance` makes, after any calls with any arguments, whatever each answered.
pub use Rattle.channel_system.proofs.Demand.{demand, demand_from_new}
-- Its parts: no 32; invariants; time and clocks; queues.
pub use Rattle.channel_system.proofs.SystemChains.{chain_known, chain_fits, chain_state, call_refused}
pub use Rattle.channel_system.proofs.SystemInvariants.{chain_invariants, chain_throughout}
pub use Rattle.channel_system.proofs.SystemClocks.{chain_time, chain_clocks, since_its_reset, never_reset, goes_on_through}
pub use Rattle.channel_system.proofs.SystemQueues.{chain_values, chain_sink, chain_shape}
-- The incident: a receive whose guard is false answers 8, and every word is as it was.
pub use Rattle.channel_system.proofs.CallTheorems.{receive_behind_guard}
-- A refusal leaves every word; what a step and a wait leave alone.
pub use Rattle.channel_system.proofs.CallTheorems.{step_refused, wait_refused, step_other_runs, step_time, plain_step_queues}
pub use Rattle.channel_system.proofs.CallTheorems.{probe_step_queues, step_queues, wait_queues, wait_places}
-- What a channel answers, over its queue as a list, each number exactly when.
pub use Rattle.channel_system.proofs.ChannelExactly.{refused_32, transition_moves, refused_17, refused_18, refused_19, refused_20}
pub use Rattle.channel_system.proofs.ChannelExactly.{refused_27, refused_21, sink_refuses, narrow_refuses, refused_24, refused_22}
pub use Rattle.channel_system.proofs.ChannelExactly.{refused_25, refused_23, refused_by_channel, channel_takes, channel_asked, emptied_takes}
-- A step of each kind is accepted exactly when it should be, and answers each number exactly when.
pub use Rattle.channel_system.proofs.StepExactly.{plain_past_guards, plain_accepted, plain_26, plain_8, plain_7, plain_3, plain_1}
pub use Rattle.channel_system.proofs.StepExactly.{plain_never_13, autonomous_accepted, autonomous_7, autonomous_3, autonomous_8}
pub use Rattle.channel_system.proofs.StepExactly.{message_accepted, message_7, message_8, message_26, message_past_guards, message_never}
pub use Rattle.channel_system.proofs.StepExactly.{unknown_post}
-- So is a wait.
pub use Rattle.channel_system.proofs.WaitsExactly.{wait_26, wait_9, wait_accepted, wait_32, can_wait_exactly, is_waiting_exactly}
pub use Rattle.channel_system.proofs.WaitsExactly.{is_waiting_by_graph}
-- The listing: exactly what its test lets through, each once, in order; and where its test and a step part.
pub use Rattle.channel_system.proofs.ListedExactly.{listed_kept, graph_lists, system_lists, listed_refused, taken_dropped}
pub use Rattle.channel_system.proofs.ListedSteps.{plain_steps, message_steps, autonomous_steps}
