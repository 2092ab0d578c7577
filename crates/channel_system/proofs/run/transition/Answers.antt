use Rattle.std.proofs.lemmas.Result.{err_from_is_err_and}
use Rattle.std.specs.Prelude.{Err}
use mathlib.Core.Path.{refl, ap, ◌∙◌}
use Rattle.laws.specs.Ladder.{unless}
use Rattle.channel_system.specs.Steps.{transition_of}
use Rattle.channel_system.proofs.FittingLaws.{fits_both}
use Rattle.channel_system.proofs.run.transition.Goals as goal

pub returns-in_err-fitting : goal.returns-in_err-fitting
unfolding transition_of unless
returns-in_err-fitting c =
    let p = err_from_is_err_and c.from_residual.result c.from_residual.ensures.1 in
    rw c.in_err-fitting.ensures.1 (p.1 ∙ ap Err (p.2 ∙ c.in_err-fitting.ensures.0), refl)

pub step-requires : goal.step-requires
step-requires c = fits_both _ _ c.in_ok-fitting.ensures

pub returns : goal.returns
unfolding transition_of unless
returns c =
    rw c.in_ok-fitting.ensures c.step.ensures
