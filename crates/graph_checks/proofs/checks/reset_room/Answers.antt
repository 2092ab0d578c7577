use Rattle.std.proofs.Common.{arith, sym}
use Rattle.graph_checks.proofs.ReadyActions.{plain_ready}
use Rattle.graph_checks.proofs.checks.reset_room.Goals as goal

pub reset_count-requires : goal.reset_count-requires
reset_count-requires c =
    let p = plain_ready _ _ c.requires (sym c.in_ok-plain_check.ensures) in
    (c.requires.words, omega (arith, p.0, c.requires.counts.actions))
