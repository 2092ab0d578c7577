use Rattle.std.proofs.Common.{arith, sym, true}
use Rattle.graph_checks.proofs.ReadyParts.{location_ready}
use Rattle.graph_builder.proofs.BuildingLaws.{words_of}
use Rattle.graph_builder.proofs.new_timed_location.Goals as goal

pub location_count-n-requires : goal.location_count-n-requires
location_count-n-requires c = words_of _ true (location_ready _ _ (sym c.in_ok-location_check.ensures)).formed

pub put_location-requires : goal.put_location-requires
put_location-requires c = let r = location_ready _ _ (sym c.in_ok-location_check.ensures) in (words_of _ true r.formed, r.room, r.limits.0)

pub overflow_cast-result : goal.overflow_cast-result
overflow_cast-result c = let r = location_ready _ _ (sym c.in_ok-location_check.ensures) in omega (arith, c.location_count-n.ensures, r.room)
