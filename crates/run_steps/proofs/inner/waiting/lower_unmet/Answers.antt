use native.Mathlib.Omega.{arith}
use Rattle.run_steps.specs.Waiting.{lower_unmet}
use Rattle.run_steps.proofs.inner.waiting.lower_unmet.Goals as goal

pub returns : goal.returns
unfolding lower_unmet
returns c = rw (c.lower_met.ensures, c.lower_of.ensures, c.clock_of.ensures)

pub offset_bounds-clocks-clock_of : goal.offset_bounds-clocks-clock_of
offset_bounds-clocks-clock_of c =
    omega (arith, c.clock_of.ensures)
