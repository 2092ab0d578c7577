use mathlib.Core.Path.{refl, ap, ◌∙◌}
use native.Mathlib.Omega.{arith}
use native.Mathlib.Numerals.{add-one}
use borrow.Author.Rules.{rules}
use Rattle.graph_tables.specs.Sizes.{clock_room}
use Rattle.program_graph.specs.Used.{numbers_below}
use Rattle.program_graph.proofs.inner.used.used_times.Goals as goal

pub loop-c-init : goal.loop-c-init
unfolding numbers_below
loop-c-init c = (search rules, refl)

pub overflow_cast-times : goal.overflow_cast-times
overflow_cast-times c =
    omega (arith, c.requires.2 c.loop-c.c c.loop-c-test.true)

pub loop-c-preserved : goal.loop-c-preserved
unfolding numbers_below
loop-c-preserved c = (omega arith, rw add-one (cc))

pub returns : goal.returns
returns c = c.loop-c.invariant.1 ∙ ap (numbers_below clock_room _) (omega arith)
