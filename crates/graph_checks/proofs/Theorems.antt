-- What a layer that builds relies on: an accepted check has found all that its change asks for.

-- Of variables, clocks, actions, processes, locations and transitions.
pub use Rattle.graph_checks.proofs.ReadyParts.{var_ready, clock_ready, action_ready, process_ready_lem, location_ready, initial_ready}
pub use Rattle.graph_checks.proofs.ReadyParts.{transition_ready}
-- Of resets, effects and messages.
pub use Rattle.graph_checks.proofs.ReadyActions.{reset_ready, effect_ready, send_ready, receive_ready}
