use mathlib.Core.Path.{refl, ap, ◌∙◌}
use native.Mathlib.Omega.{arith}
use native.Mathlib.Numerals.{add-one}
use borrow.Author.Rules.{rules}
use Rattle.graph_tables.specs.Sizes.{process_room}
use Rattle.program_graph.specs.Used.{numbers_below}
use Rattle.program_graph.proofs.inner.used.used_places.Goals as goal

pub loop-p-init : goal.loop-p-init
unfolding numbers_below
loop-p-init c = (search rules, refl)

pub overflow_cast-places : goal.overflow_cast-places
overflow_cast-places c =
    omega (arith, c.requires.2 c.loop-p.p c.loop-p-test.true)

pub loop-p-preserved : goal.loop-p-preserved
unfolding numbers_below
loop-p-preserved c = (omega arith, rw add-one (cc))

pub returns : goal.returns
returns c = c.loop-p.invariant.1 ∙ ap (numbers_below process_room _) (omega arith)
