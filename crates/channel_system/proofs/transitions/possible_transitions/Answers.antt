use Rattle.std.proofs.lemmas.Result.{err_from_is_err_and}
use Rattle.std.specs.Prelude.{Err}
use mathlib.Core.Path.{ap, ◌∙◌}
use Rattle.laws.proofs.Ladder.{passed, stopped}
use Rattle.channel_system.specs.Listing.{possible_of}
use Rattle.channel_system.proofs.FittingLaws.{fits_both}
use Rattle.channel_system.proofs.transitions.possible_transitions.Goals as goal

pub returns-in_err-fitting : goal.returns-in_err-fitting
unfolding possible_of
returns-in_err-fitting c =
    let p = err_from_is_err_and c.from_residual.result c.from_residual.ensures.1 in
    p.1 ∙ ap Err (p.2 ∙ c.in_err-fitting.ensures.0) ∙ stopped _ _ c.in_err-fitting.ensures.1

pub entry_at-requires : goal.entry_at-requires
entry_at-requires c = fits_both _ _ c.in_ok-fitting.ensures

pub returns : goal.returns
unfolding possible_of
returns c = passed _ c.in_ok-fitting.ensures c.entry_at.ensures
