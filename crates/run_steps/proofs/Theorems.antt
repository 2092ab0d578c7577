-- What a layer that steps relies on, by the files that have it.

-- The listing has the entries of the transitions that may be taken, each once, in order.
pub use Rattle.run_steps.proofs.ListingTheorems.{listing_by_action, action_listed, action_lists, listed_passes, passes_listed, listed_ascend}
pub use Rattle.run_steps.proofs.ListingTheorems.{past_the_end, plain_ready}
-- Effects run in their turn: each on the variables that those before left; the first without a value ends them.
pub use Rattle.run_steps.proofs.StepLaws.{effects_since, effects_other, effects_stop, effects_turn}
-- A message is said on the variables as they are, and taken into the variables in order.
pub use Rattle.run_steps.proofs.MessageLaws.{spoken_stop, spoken_turn, taken_kept, taken_last}
-- Variables and places that the table does not have make no difference.
pub use Rattle.run_steps.proofs.AgreeLaws.{ready_agree, listing_agree, spoken_agree, effected_agree, taken_agree}
pub use Rattle.run_steps.proofs.UsedLaws.{waiting_used, listing_used}
