use Rattle.std.proofs.lemmas.Result.{err_from_is_err_and}
use Rattle.std.specs.Prelude.{Ok, Err}
use mathlib.Core.Path.{ap, ◌∙◌}
use native.Mathlib.Omega.{arith}
use Rattle.laws.proofs.Ladder.{passed, stopped}
use Rattle.channel_system.specs.Readers.{now_of}
use Rattle.channel_system.proofs.FittingLaws.{fits_state}
use Rattle.channel_system.proofs.readers.time.Goals as goal

pub returns-in_err-fitting : goal.returns-in_err-fitting
unfolding now_of
returns-in_err-fitting c =
    let p = err_from_is_err_and c.from_residual.result c.from_residual.ensures.1 in
    p.1 ∙ ap Err (p.2 ∙ c.in_err-fitting.ensures.0) ∙ stopped _ _ c.in_err-fitting.ensures.1

pub time_of-requires : goal.time_of-requires
time_of-requires c =
    (fits_state c.args.t.now c.args.s.now c.in_ok-fitting.ensures).words

pub overflow_cast-result : goal.overflow_cast-result
overflow_cast-result c =
    omega (
      arith,
      c.time_of.ensures,
      (fits_state c.args.t.now c.args.s.now c.in_ok-fitting.ensures).time,
    )

pub returns : goal.returns
unfolding now_of
returns c =
    passed _ c.in_ok-fitting.ensures (ap Ok c.time_of.ensures)
