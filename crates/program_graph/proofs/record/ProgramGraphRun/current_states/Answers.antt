use mathlib.Core.Path.{refl}
use Rattle.laws.proofs.Ladder.{passed, stopped}
use Rattle.laws.proofs.Tests.{held, failed}
use Rattle.program_graph.specs.Running.{states_of}
use Rattle.program_graph.proofs.record.ProgramGraphRun.current_states.Goals as goal

pub returns-then-not-fits_table : goal.returns-then-not-fits_table
unfolding states_of
returns-then-not-fits_table c = stopped _ _ (failed c.fits_table.ensures c.if-not-fits_table.true)

pub returns : goal.returns
unfolding states_of
returns c = passed _ (held c.fits_table.ensures c.if-not-fits_table.false) refl
