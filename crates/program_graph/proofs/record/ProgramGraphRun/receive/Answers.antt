use Rattle.laws.proofs.Ladder.{passed, stopped}
use Rattle.laws.proofs.Tests.{held, failed}
use Rattle.program_graph.specs.Messaging.{receive_of}
use Rattle.program_graph.proofs.RunLaws.{fitting}
use Rattle.program_graph.proofs.record.ProgramGraphRun.receive.Goals as goal

pub returns-then-not-fits_table : goal.returns-then-not-fits_table
unfolding receive_of
returns-then-not-fits_table c = stopped _ _ (failed c.fits_table.ensures c.if-not-fits_table.true)

pub receive-requires : goal.receive-requires
receive-requires c = fitting _ _ (held c.fits_table.ensures c.if-not-fits_table.false)

pub returns : goal.returns
unfolding receive_of
returns c = passed _ (held c.fits_table.ensures c.if-not-fits_table.false) c.receive.ensures
