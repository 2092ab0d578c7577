-- What a layer that builds relies on, by the files that have it.

-- A part that is put in reads as what was handed, and what was there is kept.
pub use Rattle.graph_edits.proofs.EditsRead.{var_keeps, var_read_lem, clock_keeps, process_keeps, process_read, action_keeps, action_read}
pub use Rattle.graph_edits.proofs.EditsRead.{send_keeps, send_read, receive_keeps, receive_read, location_keeps, initial_keeps}
pub use Rattle.graph_edits.proofs.EditsRead.{initial_invariants, initial_place, reset_keeps, reset_read, effect_keeps, effect_read}
pub use Rattle.graph_edits.proofs.EditsRead.{transition_keeps}
-- A well-formed table is well formed with a part more, if the part is in order.
pub use Rattle.graph_edits.proofs.PartsFormed.{var_formed, clock_formed, process_formed_lem}
pub use Rattle.graph_edits.proofs.LocationFormed.{location_formed_lem, initial_formed}
pub use Rattle.graph_edits.proofs.ActionFormed.{action_formed_lem, send_formed_lem, receive_formed_lem}
pub use Rattle.graph_edits.proofs.ResetFormed.{reset_formed_lem}
pub use Rattle.graph_edits.proofs.EffectFormed.{effect_formed_lem}
pub use Rattle.graph_edits.proofs.TransitionFormed.{transition_formed_lem}
-- The order of keys is the order of (pre, action, post).
pub use Rattle.graph_edits.proofs.KeyLaws.{key_order}
