use Rattle.std.proofs.Common.{arith, sym}
use Rattle.grammar.proofs.DrawLaws.{draws_few}
use Rattle.graph_checks.proofs.ReadyActions.{plain_ready}
use Rattle.graph_checks.proofs.checks.action_effect_check.Goals as goal

pub effect_room-requires : goal.effect_room-requires
effect_room-requires c =
    let p = plain_ready _ _ c.requires.0 (sym c.in_ok-plain_check.ensures) in
    (c.requires.0, p.0, p.1, omega (arith, c.count_draws.ensures, draws_few c.args.items.now, c.requires.1))
