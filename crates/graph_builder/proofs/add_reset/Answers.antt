use Rattle.std.proofs.Common.{arith, sym, true}
use Rattle.graph_checks.proofs.ReadyActions.{reset_ready}
use Rattle.graph_builder.proofs.BuildingLaws.{words_of, counted_of}
use Rattle.graph_builder.proofs.add_reset.Goals as goal

pub put_reset-requires : goal.put_reset-requires
put_reset-requires c =
    let r = reset_ready _ _ _ (sym c.in_ok-reset_check.ensures) in
    (words_of _ true r.formed, omega (arith, r.action.0, (counted_of _ true r.formed).actions), r.room)
