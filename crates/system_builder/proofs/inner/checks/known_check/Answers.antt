use Rattle.std.proofs.Common.{sym}
use Rattle.system_builder.proofs.SystemLaws.{known_graph}
use Rattle.system_builder.proofs.inner.checks.known_check.Goals as goal

pub channel_count-requires : goal.channel_count-requires
channel_count-requires c = (known_graph _ _ (sym c.in_ok-member_check.ensures)).0
