use Rattle.std.proofs.Common.{sym}
use Rattle.system_builder.proofs.MessageLaws.{known_both}
use Rattle.system_builder.proofs.inner.checks.receive_check.Goals as goal

pub graph_at-requires : goal.graph_at-requires
graph_at-requires c = let f = known_both _ _ _ (sym c.in_ok-known_check.ensures) in (f.words, f.graph)

pub received_check-requires : goal.received_check-requires
received_check-requires c =
    let f = known_both _ _ _ (sym c.in_ok-known_check.ensures) in
    (rw c.graph_at.ensures f.sound, f.words, f.channel)
