use mathlib.Core.Path.{refl}
use native.Mathlib.Omega.{arith}
use lib.ListN.{length-set}
use borrow.Author.Rules.{rules}
use Rattle.laws.proofs.Copies.{filled_none, filled_more, filled_all}
use Rattle.run_steps.proofs.inner.copies.copy.Goals as goal

pub loop-i-init : goal.loop-i-init
loop-i-init c = (search rules, search rules, filled_none 0 _ _)

pub loop-i-preserved : goal.loop-i-preserved
loop-i-preserved c =
    (omega arith, simp length-set c.loop-i.invariant.1, filled_more 0 _ _ _ _ c.loop-i.invariant.2 (omega arith) refl)

pub returns : goal.returns
returns c = filled_all 0 _ _ c.loop-i.i c.loop-i.invariant.2 c.loop-i.invariant.1 (omega arith)
