use Prim.Native.Nat.{ℕ}
use mathlib.Core.Path.{◌≡◌}
use mathlib.Core.Bool.{true}
use mathlib.Core.List.{List}
use native.Mathlib.Omega.{arith}
use borrow.Author.Tests.{eqb-true}
use Rattle.laws.proofs.BelowLaws.{and_yes, and_no, and_first, and_rest}
use Rattle.laws.proofs.Tests.{held, failed}
use Rattle.graph_tables.specs.Words.{variable_count, process_count}
use Rattle.program_graph.specs.declared.record.ProgramGraphRun.{ProgramGraphRun}
use Rattle.program_graph.specs.Running.{counts_same, run_formed}
use Rattle.program_graph.proofs.inner.fits.run_formed.Goals as goal

processes_same : (t : List ℕ) (run : ProgramGraphRun) → counts_same t run ≡ true → run.processes ≡ process_count t
unfolding counts_same
processes_same t run h = eqb-true _ _ (and_first _ _ h)

variables_same : (t : List ℕ) (run : ProgramGraphRun) → counts_same t run ≡ true → run.variables ≡ variable_count t
unfolding counts_same
variables_same t run h = eqb-true _ _ (and_first _ _ (and_rest _ _ h))

pub returns-then-not-counts_same : goal.returns-then-not-counts_same
unfolding run_formed
returns-then-not-counts_same c = and_no _ (failed c.counts_same.ensures c.if-not-counts_same.true)

pub places_known-requires : goal.places_known-requires
places_known-requires c =
    let same = held c.counts_same.ensures c.if-not-counts_same.false in
    (c.requires, omega (arith, c.requires.counts.processes, processes_same _ _ same))

pub returns-then-not-places_known : goal.returns-then-not-places_known
unfolding run_formed
returns-then-not-places_known c =
    and_yes (held c.counts_same.ensures c.if-not-counts_same.false) (and_no _ (failed c.places_known.ensures c.if-not-places_known.true))

pub vars_fit-requires : goal.vars_fit-requires
vars_fit-requires c =
    let same = held c.counts_same.ensures c.if-not-counts_same.false in
    (c.requires, omega (arith, c.requires.counts.variables, variables_same _ _ same))

pub returns : goal.returns
unfolding run_formed
returns c =
    and_yes (held c.counts_same.ensures c.if-not-counts_same.false)
    (and_yes (held c.places_known.ensures c.if-not-places_known.false) c.vars_fit.ensures)
