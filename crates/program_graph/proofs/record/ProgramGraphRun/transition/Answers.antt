use Rattle.laws.proofs.Ladder.{passed, stopped}
use Rattle.laws.proofs.Tests.{held, failed}
use Rattle.program_graph.specs.Running.{transition_of}
use Rattle.program_graph.proofs.RunLaws.{fitting}
use Rattle.program_graph.proofs.record.ProgramGraphRun.transition.Goals as goal

pub returns-then-not-fits_table : goal.returns-then-not-fits_table
unfolding transition_of
returns-then-not-fits_table c = stopped _ _ (failed c.fits_table.ensures c.if-not-fits_table.true)

pub step-requires : goal.step-requires
step-requires c = fitting _ _ (held c.fits_table.ensures c.if-not-fits_table.false)

pub returns : goal.returns
unfolding transition_of
returns c = passed _ (held c.fits_table.ensures c.if-not-fits_table.false) c.step.ensures
