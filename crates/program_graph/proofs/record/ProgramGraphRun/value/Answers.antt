use Rattle.std.specs.Prelude.{Err}
use mathlib.Core.Path.{refl}
use native.Mathlib.Omega.{arith}
use borrow.Author.Tests.{lt-ltb, le-ltb}
use Rattle.laws.proofs.Ladder.{passed, stopped}
use Rattle.laws.proofs.Tests.{held, failed}
use Rattle.graph_tables.specs.Refusals.{refusal}
use Rattle.program_graph.specs.Running.{value_in}
use Rattle.program_graph.proofs.RunLaws.{fitting}
use Rattle.program_graph.proofs.record.ProgramGraphRun.value.Goals as goal

pub returns-then-not-fits_table : goal.returns-then-not-fits_table
unfolding value_in
returns-then-not-fits_table c = stopped _ _ (failed c.fits_table.ensures c.if-not-fits_table.true)

pub variable_count-requires : goal.variable_count-requires
variable_count-requires c = (fitting _ _ (held c.fits_table.ensures c.if-not-fits_table.false)).0.words

pub returns-then-variable_count-v : goal.returns-then-variable_count-v
unfolding value_in
returns-then-variable_count-v c =
    passed (Err (refusal 32)) (held c.fits_table.ensures c.if-not-fits_table.false)
    (stopped _ _ (le-ltb _ _ (rw c.variable_count.ensures at c.if-variable_count-v.true)))

pub bounds-vars-v : goal.bounds-vars-v
bounds-vars-v c =
    let s = (fitting _ _ (held c.fits_table.ensures c.if-not-fits_table.false)).0 in
    omega (arith, c.if-variable_count-v.false, c.variable_count.ensures, s.counts.variables)

pub returns : goal.returns
unfolding value_in
returns c =
    passed (Err (refusal 32)) (held c.fits_table.ensures c.if-not-fits_table.false)
    (passed (Err (refusal 4)) (lt-ltb _ _ (rw c.variable_count.ensures at c.if-variable_count-v.false)) refl)
