use Rattle.std.proofs.lemmas.Result.{err_from_is_err_and}
use Rattle.std.specs.Prelude.{Ok, Err}
use mathlib.Core.Path.{ap, ◌∙◌}
use Rattle.laws.proofs.Ladder.{passed, stopped}
use Rattle.channel_system.specs.Waits.{can_wait_of}
use Rattle.channel_system.proofs.FittingLaws.{fits_both}
use Rattle.channel_system.proofs.run.can_wait.Goals as goal

pub returns-in_err-fitting : goal.returns-in_err-fitting
unfolding can_wait_of
returns-in_err-fitting c =
    let p = err_from_is_err_and c.from_residual.result c.from_residual.ensures.1 in
    p.1 ∙ ap Err (p.2 ∙ c.in_err-fitting.ensures.0) ∙ stopped _ _ c.in_err-fitting.ensures.1

pub can_wait-requires : goal.can_wait-requires
can_wait-requires c = fits_both _ _ c.in_ok-fitting.ensures

pub returns : goal.returns
unfolding can_wait_of
returns c =
    passed _ c.in_ok-fitting.ensures (ap Ok c.can_wait.ensures)
