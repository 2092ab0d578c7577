use native.Mathlib.Omega.{arith}
use Rattle.run_steps.specs.Waiting.{upper_holds}
use Rattle.run_steps.proofs.inner.waiting.upper_holds.Goals as goal

pub returns : goal.returns
unfolding upper_holds
returns c = rw (c.upper_met.ensures, c.upper_of.ensures, c.clock_of.ensures)

pub offset_bounds-clocks-clock_of : goal.offset_bounds-clocks-clock_of
offset_bounds-clocks-clock_of c =
    omega (arith, c.clock_of.ensures)
