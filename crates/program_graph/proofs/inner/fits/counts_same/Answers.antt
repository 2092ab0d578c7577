use mathlib.Core.Path.{ap}
use lib.Dec.{eqb}
use borrow.Author.Tests.{eq-eqb, ne_eqb}
use Rattle.laws.proofs.BelowLaws.{and_yes, and_no}
use Rattle.program_graph.specs.Running.{counts_same}
use Rattle.program_graph.proofs.inner.fits.counts_same.Goals as goal

pub returns-then-run-process_count : goal.returns-then-run-process_count
unfolding counts_same
returns-then-run-process_count c = and_no _ (ne_eqb _ _ (rw c.process_count.ensures at c.if-run-process_count.true))

pub returns-then-run-variable_count : goal.returns-then-run-variable_count
unfolding counts_same
returns-then-run-variable_count c =
    and_yes (eq-eqb _ _ (rw c.process_count.ensures at c.if-run-process_count.false))
    (and_no _ (ne_eqb _ _ (rw c.variable_count.ensures at c.if-run-variable_count.true)))

pub returns : goal.returns
unfolding counts_same
returns c =
    and_yes (eq-eqb _ _ (rw c.process_count.ensures at c.if-run-process_count.false))
    (and_yes (eq-eqb _ _ (rw c.variable_count.ensures at c.if-run-variable_count.false)) (ap (eqb c.args.run.clocks) c.clock_count.ensures))
