use Rattle.std.proofs.Common.{sym, true}
use Rattle.graph_checks.proofs.ReadyParts.{process_ready_lem}
use Rattle.graph_builder.proofs.BuildingLaws.{words_of}
use Rattle.graph_builder.proofs.new_process.Goals as goal

pub put_process-requires : goal.put_process-requires
put_process-requires c = let r = process_ready_lem _ _ (sym c.in_ok-process_check.ensures) in (words_of _ true r.formed, r.room)
