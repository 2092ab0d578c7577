use native.Mathlib.Omega.{arith}
use Rattle.laws.proofs.Tests.{held, failed, both_yes, both_no}
use Rattle.run_steps.specs.Steps.{limit_holds}
use Rattle.run_steps.proofs.inner.limits.limit_holds.Goals as goal

pub returns-then-not-lower_met : goal.returns-then-not-lower_met
unfolding limit_holds
returns-then-not-lower_met c =
    both_no _ (rw (c.lower_of.ensures, c.clock_of.ensures) at (failed c.lower_met.ensures c.if-not-lower_met.true))

pub returns : goal.returns
unfolding limit_holds
returns c =
    both_yes (rw (c.lower_of.ensures, c.clock_of.ensures) at (held c.lower_met.ensures c.if-not-lower_met.false))
    (rw (c.upper_of.ensures, c.clock_of.ensures) at c.upper_met.ensures)

pub offset_bounds-clocks-clock_of : goal.offset_bounds-clocks-clock_of
offset_bounds-clocks-clock_of c =
    omega (arith, c.clock_of.ensures)
