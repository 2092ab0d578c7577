use mathlib.Core.Bool.{false}
use Rattle.laws.proofs.BelowLaws.{and_yes, and_no}
use Rattle.laws.proofs.Tests.{held, failed}
use Rattle.graph_tables.proofs.SoundLaws.{sound}
use Rattle.program_graph.specs.Running.{fits_table}
use Rattle.program_graph.proofs.run.fits_table.Goals as goal

pub returns-then-not-well_formed : goal.returns-then-not-well_formed
unfolding fits_table
returns-then-not-well_formed c = and_no _ (failed c.well_formed-2.ensures c.if-not-well_formed.true)

pub run_formed-requires : goal.run_formed-requires
run_formed-requires c = sound _ false (held c.well_formed-2.ensures c.if-not-well_formed.false)

pub returns : goal.returns
unfolding fits_table
returns c = and_yes (held c.well_formed-2.ensures c.if-not-well_formed.false) c.run_formed.ensures
