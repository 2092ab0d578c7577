use Rattle.std.proofs.lemmas.Result.{err_from_is_err_and}
use Rattle.channel_system.specs.declared.answers.WaitError.TheVariants as WaitError
use Rattle.std.specs.Prelude.{Err}
use mathlib.Core.Path.{refl, ap, ◌∙◌}
use Rattle.laws.specs.Ladder.{unless}
use Rattle.channel_system.specs.Waits.{wait_of}
use Rattle.channel_system.proofs.FittingLaws.{fits_both}
use Rattle.channel_system.proofs.run.wait.Goals as goal

pub returns-in_err-fitting : goal.returns-in_err-fitting
unfolding wait_of unless
returns-in_err-fitting c =
    let p = err_from_is_err_and c.from_residual.result c.from_residual.ensures.1 in
    rw c.in_err-fitting.ensures.1 (p.1 ∙ ap Err (p.2 ∙ ap WaitError.Refused c.in_err-fitting.ensures.0), refl)

pub wait-requires : goal.wait-requires
wait-requires c = fits_both _ _ c.in_ok-fitting.ensures

pub returns : goal.returns
unfolding wait_of unless
returns c =
    rw c.in_ok-fitting.ensures c.wait.ensures
