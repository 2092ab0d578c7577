use Rattle.std.specs.Prelude.{Ok}
use mathlib.Core.Path.{ap}
use Rattle.laws.proofs.Ladder.{passed, stopped}
use Rattle.laws.proofs.Tests.{held, failed}
use Rattle.program_graph.specs.Running.{can_wait_of}
use Rattle.program_graph.proofs.RunLaws.{fitting}
use Rattle.program_graph.proofs.record.ProgramGraphRun.can_wait.Goals as goal

pub returns-then-not-fits_table : goal.returns-then-not-fits_table
unfolding can_wait_of
returns-then-not-fits_table c = stopped _ _ (failed c.fits_table.ensures c.if-not-fits_table.true)

pub can_wait-requires : goal.can_wait-requires
can_wait-requires c = fitting _ _ (held c.fits_table.ensures c.if-not-fits_table.false)

pub returns : goal.returns
unfolding can_wait_of
returns c = passed _ (held c.fits_table.ensures c.if-not-fits_table.false) (ap Ok c.can_wait.ensures)
