use Rattle.std.specs.Prelude.{Err}
use Rattle.laws.proofs.Ladder.{passed, stopped}
use Rattle.laws.proofs.Tests.{held, failed}
use borrow.Author.Tests.{eq-eqb, ne_eqb}
use Rattle.graph_tables.specs.Refusals.{refusal}
use Rattle.program_graph.specs.Transitions.{nosync_of}
use Rattle.program_graph.proofs.RunLaws.{fitting}
use Rattle.program_graph.proofs.record.ProgramGraphRun.nosync_possible_transitions.Goals as goal

pub returns-then-not-fits_table : goal.returns-then-not-fits_table
unfolding nosync_of
returns-then-not-fits_table c = stopped _ _ (failed c.fits_table.ensures c.if-not-fits_table.true)

pub returns-then-self-ne1 : goal.returns-then-self-ne1
unfolding nosync_of
returns-then-self-ne1 c =
    passed (Err (refusal 32)) (held c.fits_table.ensures c.if-not-fits_table.false) (stopped _ _ (ne_eqb _ _ c.if-self-ne1.true))

pub entry-requires : goal.entry-requires
entry-requires c = fitting _ _ (held c.fits_table.ensures c.if-not-fits_table.false)

pub returns : goal.returns
unfolding nosync_of
returns c =
    passed (Err (refusal 32)) (held c.fits_table.ensures c.if-not-fits_table.false)
    (passed (Err (refusal 16)) (eq-eqb _ _ c.if-self-ne1.false) c.entry.ensures)
