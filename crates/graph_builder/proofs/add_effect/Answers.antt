use Rattle.std.proofs.Common.{arith, sym, true}
use Rattle.graph_checks.proofs.ReadyActions.{effect_ready}
use Rattle.graph_builder.proofs.BuildingLaws.{words_of, counted_of}
use Rattle.graph_builder.proofs.add_effect.Goals as goal

pub put_effect-requires : goal.put_effect-requires
put_effect-requires c =
    let r = effect_ready _ _ _ _ (sym c.in_ok-effect_check.ensures) in
    (words_of _ true r.formed, omega (arith, r.known, (counted_of _ true r.formed).actions), r.few, r.short)
