use Rattle.std.specs.Prelude.{Err}
use mathlib.Core.Path.{refl}
use native.Mathlib.Omega.{arith}
use borrow.Author.Tests.{lt-ltb, le-ltb}
use Rattle.laws.proofs.Ladder.{passed, stopped}
use Rattle.laws.proofs.Tests.{held, failed}
use Rattle.graph_tables.specs.Refusals.{refusal}
use Rattle.program_graph.specs.Running.{time_of}
use Rattle.program_graph.proofs.RunLaws.{fitting}
use Rattle.program_graph.proofs.record.ProgramGraphRun.time.Goals as goal

pub returns-then-not-fits_table : goal.returns-then-not-fits_table
unfolding time_of
returns-then-not-fits_table c = stopped _ _ (failed c.fits_table.ensures c.if-not-fits_table.true)

pub clock_count-requires : goal.clock_count-requires
clock_count-requires c = (fitting _ _ (held c.fits_table.ensures c.if-not-fits_table.false)).0.words

pub returns-then-clock_count-c : goal.returns-then-clock_count-c
unfolding time_of
returns-then-clock_count-c c =
    passed (Err (refusal 32)) (held c.fits_table.ensures c.if-not-fits_table.false)
    (stopped _ _ (le-ltb _ _ (rw c.clock_count.ensures at c.if-clock_count-c.true)))

pub bounds-times-c : goal.bounds-times-c
bounds-times-c c =
    let s = (fitting _ _ (held c.fits_table.ensures c.if-not-fits_table.false)).0 in
    omega (arith, c.if-clock_count-c.false, c.clock_count.ensures, s.counts.clocks)

pub returns : goal.returns
unfolding time_of
returns c =
    passed (Err (refusal 32)) (held c.fits_table.ensures c.if-not-fits_table.false)
    (passed (Err (refusal 2)) (lt-ltb _ _ (rw c.clock_count.ensures at c.if-clock_count-c.false)) refl)
