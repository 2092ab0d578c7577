use Prim.Native.Nat.{◌+◌, ◌-◌}
use mathlib.Core.Path.{◌≡◌}
use native.Mathlib.Omega.{arith}
use borrow.Author.Tests.{eq-eqb, ne_eqb}
use Rattle.explainer.proofs.why.part.Goals as goal

pub overflow_add-end : goal.overflow_add-end
overflow_add-end c = omega (arith, c.requires.low)

pub returns-then-cause-eq-GUARD : goal.returns-then-cause-eq-GUARD
returns-then-cause-eq-GUARD c =
    let p = c.args.found.part in
    let e : p.start + p.length - p.start ≡ p.length = omega arith in
    rw (e, eq-eqb _ _ c.if-cause-eq-GUARD.true)

pub returns : goal.returns
returns c =
    let p = c.args.found.part in
    let e : p.start + p.length - p.start ≡ p.length = omega arith in
    rw (e, ne_eqb _ _ c.if-cause-eq-GUARD.false)
