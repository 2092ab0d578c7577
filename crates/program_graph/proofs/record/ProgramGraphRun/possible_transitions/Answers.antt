use Rattle.laws.proofs.Ladder.{passed, stopped}
use Rattle.laws.proofs.Tests.{held, failed}
use Rattle.program_graph.specs.Transitions.{possible_of}
use Rattle.program_graph.proofs.RunLaws.{fitting}
use Rattle.program_graph.proofs.record.ProgramGraphRun.possible_transitions.Goals as goal

pub returns-then-not-fits_table : goal.returns-then-not-fits_table
unfolding possible_of
returns-then-not-fits_table c = stopped _ _ (failed c.fits_table.ensures c.if-not-fits_table.true)

pub entry-requires : goal.entry-requires
entry-requires c = fitting _ _ (held c.fits_table.ensures c.if-not-fits_table.false)

pub returns : goal.returns
unfolding possible_of
returns c = passed _ (held c.fits_table.ensures c.if-not-fits_table.false) c.entry.ensures
