use Rattle.system_builder.proofs.SystemLaws.{part_size}
use Rattle.system_builder.proofs.inner.graphs.is_started.Goals as goal

pub process_count-requires : goal.process_count-requires
process_count-requires c = rw c.graph_at.ensures (part_size _ _ c.requires.0 c.requires.1)
