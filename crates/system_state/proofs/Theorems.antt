-- What a layer that runs a system relies on, by the files that have it.

-- The test of a state finds exactly the facts that the calls on it ask for.
pub use Rattle.system_state.proofs.SoundLaws.{state_sound, sound_fits}
-- A fresh state fits its table: its time is 0, its runs are fresh, its queues are empty.
pub use Rattle.system_state.proofs.FreshLaws.{fresh_fits}
pub use Rattle.system_state.proofs.FreshParts.{fresh_state_time, fresh_state_run, fresh_state_empty}
-- What is written of the time, a run or a queue is read again, every other part is as it was, and the state is still one of the table.
pub use Rattle.system_state.proofs.WithLaws.{with_time_time, with_time_run, with_time_queue, with_run_here, with_run_time, with_run_run}
pub use Rattle.system_state.proofs.WithLaws.{with_run_queue, with_queue_here, with_queue_time, with_queue_run, with_queue_queue}
pub use Rattle.system_state.proofs.WithLaws.{with_time_sound, with_run_sound, with_queue_sound}
-- A queue stays one of its channel when a message of the channel is put in within the ceiling, and when one is taken.
pub use Rattle.system_state.proofs.ChannelLaws.{push_kept, pop_kept}
