use Rattle.std.proofs.lemmas.Result.{err_from_is_err_and}
use Rattle.std.specs.Prelude.{Ok, Err}
use mathlib.Core.Path.{ap, ◌∙◌}
use Rattle.laws.proofs.Ladder.{passed, stopped}
use Rattle.channel_system.specs.Waits.{is_waiting_of}
use Rattle.channel_system.proofs.FittingLaws.{fits_both}
use Rattle.channel_system.proofs.run.is_waiting.Goals as goal

pub returns-in_err-fitting : goal.returns-in_err-fitting
unfolding is_waiting_of
returns-in_err-fitting c =
    let p = err_from_is_err_and c.from_residual.result c.from_residual.ensures.1 in
    p.1 ∙ ap Err (p.2 ∙ c.in_err-fitting.ensures.0) ∙ stopped _ _ c.in_err-fitting.ensures.1

pub is_waiting-requires : goal.is_waiting-requires
is_waiting-requires c = fits_both _ _ c.in_ok-fitting.ensures

pub returns : goal.returns
unfolding is_waiting_of
returns c =
    passed _ c.in_ok-fitting.ensures (ap Ok c.is_waiting.ensures)
