use Rattle.std.proofs.Common.{arith, sym, true}
use Rattle.graph_checks.proofs.ReadyParts.{clock_ready}
use Rattle.graph_builder.proofs.BuildingLaws.{words_of}
use Rattle.graph_builder.proofs.new_clock.Goals as goal

pub clock_count-n-requires : goal.clock_count-n-requires
clock_count-n-requires c = words_of _ true (clock_ready _ (sym c.in_ok-clock_check.ensures)).0

pub put_clock-requires : goal.put_clock-requires
put_clock-requires c = let r = clock_ready _ (sym c.in_ok-clock_check.ensures) in (words_of _ true r.0, r.1)

pub overflow_cast-result : goal.overflow_cast-result
overflow_cast-result c = let r = clock_ready _ (sym c.in_ok-clock_check.ensures) in omega (arith, c.clock_count-n.ensures, r.1)
