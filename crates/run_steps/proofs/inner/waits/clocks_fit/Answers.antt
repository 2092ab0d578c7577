use mathlib.Core.Path.{sym}
use native.Mathlib.Omega.{arith}
use borrow.Author.Rules.{rules}
use Rattle.laws.proofs.BelowLaws.{all_none, all_more, all_fails, all_done}
use Rattle.run_steps.proofs.StepLaws.{clock_fits_lem, clock_passes}
use Rattle.run_steps.proofs.inner.waits.clocks_fit.Goals as goal

pub loop-i-init : goal.loop-i-init
loop-i-init c = (search rules, all_none _)

pub returns-then-last-clocks : goal.returns-then-last-clocks
returns-then-last-clocks c = sym (all_fails _ _ c.loop-i.i (omega arith) (clock_passes _ _ _ (omega arith)))

pub loop-i-preserved : goal.loop-i-preserved
loop-i-preserved c = (omega arith, all_more _ _ c.loop-i.invariant.1 (clock_fits_lem _ _ _ (omega arith)))

pub returns : goal.returns
returns c = sym (all_done _ _ c.loop-i.i (omega arith) (omega arith) c.loop-i.invariant.1)
