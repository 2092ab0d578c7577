use Rattle.std.proofs.Common.{sym}
use Rattle.system_builder.proofs.SystemLaws.{known_graph}
use Rattle.system_builder.proofs.on_graph.var_type.Goals as goal

pub graph_at-requires : goal.graph_at-requires
graph_at-requires c = known_graph _ _ (sym c.in_ok-member_check.ensures)
