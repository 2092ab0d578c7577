use mathlib.Core.Path.{sym}
use native.Mathlib.Omega.{arith}
use borrow.Author.Rules.{rules}
use Rattle.laws.proofs.BelowLaws.{all_none, all_more, all_fails, all_done}
use Rattle.laws.proofs.Tests.{held, failed}
use Rattle.system_builder.specs.Messages.{sent_typed}
use Rattle.system_builder.proofs.inner.messages.all_typed.Goals as goal

pub loop-e-init : goal.loop-e-init
loop-e-init c = (search rules, all_none _)

pub returns-then-not-is_typed : goal.returns-then-not-is_typed
unfolding sent_typed
returns-then-not-is_typed c =
    let d = c.before in
    let k = c.before.before in
    let l = c.before.before.before.before in
    sym (all_fails _ _ l.loop-e.e (omega arith) (failed (rw k.choose.ensures at d.is_typed.ensures) c.if-not-is_typed.true))

pub loop-e-preserved : goal.loop-e-preserved
unfolding sent_typed
loop-e-preserved c =
    let d = c.before in
    let k = c.before.before in
    let l = c.before.before.before.before in
    (omega arith, all_more _ _ l.loop-e.invariant.1 (held (rw k.choose.ensures at d.is_typed.ensures) c.if-not-is_typed.false))

pub returns : goal.returns
returns c = sym (all_done _ _ c.loop-e.e (omega arith) (omega arith) c.loop-e.invariant.1)
