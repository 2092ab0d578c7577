use Rattle.std.proofs.Common.{arith, rules, sym, true}
use Rattle.laws.proofs.Tests.{held}
use Rattle.graph_tables.proofs.SoundLaws.{sound}
use Rattle.graph_checks.proofs.ReadyActions.{message_short}
use Rattle.graph_checks.proofs.checks.send_check.Goals as goal

pub send_room-requires : goal.send_room-requires
send_room-requires c = (
  sound _ true (held c.well_formed-2.ensures (search rules)),
  omega arith,
  message_short _ _ _ (sym c.in_ok-message_check.ensures),
)
