use mathlib.Core.Path.{◌≡◌}
use mathlib.Core.Bool.{true}
use native.Mathlib.Omega.{arith}
use borrow.Author.Tests.{eq-eqb, ne_eqb}
use Rattle.laws.proofs.BelowLaws.{and_yes, and_no}
use Rattle.laws.proofs.Tests.{held, failed}
use Rattle.system_state.specs.Fits.{time_fits, state_fits}
use Rattle.system_state.proofs.SoundLaws.{time_holds, time_fails}
use Rattle.system_state.proofs.inner.fits.state_fits.Goals as goal
use Rattle.system_state.proofs.inner.fits.state_fits.Goals.{Else-time_of}

-- what is known once the time is found
in_time : (c : Else-time_of) → time_fits c.args.s.now ≡ true
in_time c = time_holds c.args.s.now (omega (arith, c.time_of.ensures))

pub returns-then-s-ne-WORDS : goal.returns-then-s-ne-WORDS
unfolding state_fits
returns-then-s-ne-WORDS c = and_no _ (ne_eqb _ _ c.if-s-ne-WORDS.true)

pub returns-then-time_of : goal.returns-then-time_of
unfolding state_fits
returns-then-time_of c =
    and_yes (eq-eqb _ _ c.if-s-ne-WORDS.false) (and_no _ (time_fails c.args.s.now (omega (arith, c.time_of.ensures))))

pub returns-then-not-runs_fit : goal.returns-then-not-runs_fit
unfolding state_fits
returns-then-not-runs_fit c =
    and_yes (eq-eqb _ _ c.if-s-ne-WORDS.false)
    (and_yes (in_time (goal.at.returns-then-not-runs_fit c).Else-time_of) (and_no _ (failed c.runs_fit.ensures c.if-not-runs_fit.true)))

pub returns : goal.returns
unfolding state_fits
returns c =
    and_yes (eq-eqb _ _ c.if-s-ne-WORDS.false)
    (and_yes (in_time (goal.at.returns c).Else-time_of) (and_yes (held c.runs_fit.ensures c.if-not-runs_fit.false) c.queues_fit.ensures))
