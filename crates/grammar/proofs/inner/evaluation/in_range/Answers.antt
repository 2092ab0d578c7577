use mathlib.Core.Bool.{false}
use lib.Signed.{lt_z}
use Rattle.grammar.specs.Arith.{least, most}
use Rattle.grammar.specs.Inner.{held_of}
use mir.Facts.{to_z-of_z}
use Rattle.grammar.proofs.Signed.{between}
use mathlib.Core.Path.{◌≡◌, ◌∙◌}
use Rattle.grammar.proofs.inner.evaluation.in_range.Goals as goal

pub returns-then-z-ltminus2147483648 : goal.returns-then-z-ltminus2147483648
unfolding held_of
returns-then-z-ltminus2147483648 c = let e = to_z-of_z c.ranges.z in simp (rw e at c.if-z-ltminus2147483648.true)

pub returns-then-z-gt2147483647 : goal.returns-then-z-gt2147483647
unfolding held_of
returns-then-z-gt2147483647 c =
    let e = to_z-of_z c.ranges.z in
    simp (rw e at c.if-z-ltminus2147483648.false, rw e at c.if-z-gt2147483647.true)

pub overflow_cast-z : goal.overflow_cast-z
overflow_cast-z c = between _ c.if-z-ltminus2147483648.false c.if-z-gt2147483647.false

pub returns : goal.returns
returns c =
    let s = c.before.before.before in
    let z = s.args.z in
    let e = to_z-of_z s.ranges.z in
    let l : lt_z z least ≡ false = rw e at c.if-z-ltminus2147483648.false in
    let m : lt_z most z ≡ false = rw e at c.if-z-gt2147483647.false in
    c.integer.ensures ∙ rw (e, to_z-of_z (between z l m), l, m)
