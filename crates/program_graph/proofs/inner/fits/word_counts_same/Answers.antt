use mathlib.Core.Path.{ap}
use lib.Dec.{eqb}
use borrow.Author.Tests.{eq-eqb, ne_eqb}
use Rattle.laws.proofs.BelowLaws.{and_yes, and_no}
use Rattle.graph_tables.specs.RunWords.{run_clocks}
use Rattle.program_graph.specs.Running.{counts_same}
use Rattle.program_graph.proofs.inner.fits.word_counts_same.Goals as goal

pub returns-then-r-process_count : goal.returns-then-r-process_count
unfolding counts_same
returns-then-r-process_count c = and_no _ (ne_eqb _ _ (rw c.process_count.ensures at c.if-r-process_count.true))

pub returns-then-r-variable_count : goal.returns-then-r-variable_count
unfolding counts_same
returns-then-r-variable_count c =
    and_yes (eq-eqb _ _ (rw c.process_count.ensures at c.if-r-process_count.false))
    (and_no _ (ne_eqb _ _ (rw c.variable_count.ensures at c.if-r-variable_count.true)))

pub returns : goal.returns
unfolding counts_same
returns c =
    and_yes (eq-eqb _ _ (rw c.process_count.ensures at c.if-r-process_count.false))
    (and_yes (eq-eqb _ _ (rw c.variable_count.ensures at c.if-r-variable_count.false)) (ap (eqb (run_clocks c.args.r.now)) c.clock_count.ensures))
