use mathlib.Core.Path.{refl}
use mathlib.Core.Bool.{false}
use Rattle.laws.proofs.Tests.{held, failed}
use Rattle.laws.proofs.Ladder.{passed, stopped}
use Rattle.graph_tables.proofs.SoundLaws.{sound}
use Rattle.program_graph.specs.Running.{new_run_of}
use Rattle.program_graph.proofs.record.ProgramGraphRun.new.Goals as goal

pub returns-then-not-well_formed : goal.returns-then-not-well_formed
unfolding new_run_of
returns-then-not-well_formed c =
    stopped _ _ (failed c.well_formed-2.ensures c.if-not-well_formed.true)

pub fresh-requires : goal.fresh-requires
fresh-requires c = sound _ false (held c.well_formed-2.ensures c.if-not-well_formed.false)

pub returns : goal.returns
unfolding new_run_of
returns c =
    rw c.fresh.ensures (passed _ (held c.well_formed-2.ensures c.if-not-well_formed.false) refl)
