use Rattle.std.specs.Prelude.{Ok}
use mathlib.Core.Path.{ap}
use Rattle.laws.proofs.Ladder.{passed, stopped}
use Rattle.laws.proofs.Tests.{held, failed}
use Rattle.program_graph.specs.Running.{is_waiting_of}
use Rattle.program_graph.proofs.RunLaws.{fitting}
use Rattle.program_graph.proofs.record.ProgramGraphRun.is_waiting.Goals as goal

pub returns-then-not-fits_table : goal.returns-then-not-fits_table
unfolding is_waiting_of
returns-then-not-fits_table c = stopped _ _ (failed c.fits_table.ensures c.if-not-fits_table.true)

pub is_waiting-requires : goal.is_waiting-requires
is_waiting-requires c = fitting _ _ (held c.fits_table.ensures c.if-not-fits_table.false)

pub returns : goal.returns
unfolding is_waiting_of
returns c = passed _ (held c.fits_table.ensures c.if-not-fits_table.false) (ap Ok c.is_waiting.ensures)
