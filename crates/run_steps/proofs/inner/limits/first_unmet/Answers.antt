use mathlib.Core.Path.{sym}
use native.Mathlib.Omega.{arith}
use borrow.Author.Rules.{rules}
use Rattle.laws.proofs.BelowLaws.{all_none, all_more, all_done}
use Rattle.laws.proofs.Tests.{held, failed}
use Rattle.run_steps.proofs.LimitLaws.{limit_known_lem}
use Rattle.run_steps.proofs.LowestLaws.{lowest_none, lowest_at}
use Rattle.run_steps.proofs.inner.limits.first_unmet.Goals as goal

pub loop-i-init : goal.loop-i-init
loop-i-init c = (search rules, all_none _)

pub limit_holds-requires : goal.limit_holds-requires
limit_holds-requires c =
    let k = limit_known_lem {i = c.loop-i.i} c.requires.0 c.requires.1 c.requires.2 (omega arith) in
    (k.0, k.1, k.2, omega (arith, k.4, c.requires.3))

pub returns-then-not-limit_holds : goal.returns-then-not-limit_holds
returns-then-not-limit_holds c =
    let l = c.loop-i in
    sym (lowest_at _ _ l.i (omega arith) l.invariant.1 (failed c.limit_holds.ensures c.if-not-limit_holds.true))

pub loop-i-preserved : goal.loop-i-preserved
loop-i-preserved c = (omega arith, all_more _ _ c.loop-i.invariant.1 (held c.limit_holds.ensures c.if-not-limit_holds.false))

pub returns : goal.returns
returns c = sym (lowest_none _ _ (all_done _ _ c.loop-i.i (omega arith) (omega arith) c.loop-i.invariant.1))
