use Rattle.std.proofs.Common.{sym}
use Rattle.system_builder.proofs.MessageLaws.{known_both}
use Rattle.system_builder.proofs.inner.checks.send_check.Goals as goal

pub graph_at-requires : goal.graph_at-requires
graph_at-requires c = let f = known_both _ _ _ (sym c.in_ok-known_check.ensures) in (f.words, f.graph)

pub sent_check-requires : goal.sent_check-requires
sent_check-requires c =
    let f = known_both _ _ _ (sym c.in_ok-known_check.ensures) in
    (rw c.graph_at.ensures f.sound, f.words, f.channel)
