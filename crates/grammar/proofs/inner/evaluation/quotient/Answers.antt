use lib.Signed.{quot_z}
use Rattle.grammar.specs.Arith.{fitted}
use Rattle.grammar.specs.Inner.{held_of}
use Rattle.grammar.proofs.Signed.{cast_fits, op_fits, op_is, quotient_fits, zero_yes, zero_no, divisor}
use mathlib.Core.Path.{ap, ◌∙◌}
use Rattle.grammar.proofs.inner.evaluation.quotient.Goals as goal

pub returns-then-y-eq0 : goal.returns-then-y-eq0
unfolding held_of
returns-then-y-eq0 c = rw (zero_yes c.ranges.b c.if-y-eq0.true)

pub nonzero_div-x : goal.nonzero_div-x
nonzero_div-x c = (
  divisor _ c.if-y-eq0.false,
  op_fits quot_z c.ranges.a c.ranges.b
      (quotient_fits c.ranges.a c.ranges.b),
)

pub returns : goal.returns
returns c =
    rw (zero_no c.ranges.b c.if-y-eq0.false)
    (c.in_range.ensures
    ∙ ap fitted
    (op_is quot_z c.ranges.a c.ranges.b
    (quotient_fits c.ranges.a c.ranges.b)))

pub overflow_cast-x : goal.overflow_cast-x
overflow_cast-x c =
    cast_fits c.ranges.a

pub overflow_cast-y : goal.overflow_cast-y
overflow_cast-y c =
    cast_fits c.ranges.b
