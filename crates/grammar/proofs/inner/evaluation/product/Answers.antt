use lib.IntN.{◌*ℤ◌}
use Rattle.grammar.specs.Arith.{fitted}
use Rattle.grammar.proofs.Signed.{cast_fits, op_fits, op_is, product_fits}
use mathlib.Core.Path.{ap, ◌∙◌}
use Rattle.grammar.proofs.inner.evaluation.product.Goals as goal

pub overflow_mul-x : goal.overflow_mul-x
overflow_mul-x c = op_fits ◌*ℤ◌ c.ranges.a c.ranges.b (product_fits c.ranges.a c.ranges.b)

pub returns : goal.returns
returns c =
    c.in_range.ensures
    ∙ ap fitted (op_is ◌*ℤ◌ c.ranges.a c.ranges.b (product_fits c.ranges.a c.ranges.b))

pub overflow_cast-x : goal.overflow_cast-x
overflow_cast-x c =
    cast_fits c.ranges.a

pub overflow_cast-y : goal.overflow_cast-y
overflow_cast-y c =
    cast_fits c.ranges.b
