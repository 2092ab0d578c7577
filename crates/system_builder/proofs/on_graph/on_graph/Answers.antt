use Rattle.std.proofs.Common.{sym}
use Rattle.system_builder.proofs.SystemLaws.{known_graph}
use Rattle.system_builder.proofs.on_graph.on_graph.Goals as goal

pub on_part-requires-clause-words : goal.on_part-requires-clause-words
on_part-requires-clause-words g c = known_graph _ _ (sym c.in_ok-member_check.ensures)
