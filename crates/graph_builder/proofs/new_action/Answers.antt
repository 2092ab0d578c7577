use Rattle.std.proofs.Common.{arith, sym, true}
use Rattle.graph_checks.proofs.ReadyParts.{action_ready}
use Rattle.graph_builder.proofs.BuildingLaws.{words_of}
use Rattle.graph_builder.proofs.new_action.Goals as goal

pub action_count-n-requires : goal.action_count-n-requires
action_count-n-requires c = words_of _ true (action_ready _ (sym c.in_ok-action_check.ensures)).0

pub put_action-requires : goal.put_action-requires
put_action-requires c = let r = action_ready _ (sym c.in_ok-action_check.ensures) in (words_of _ true r.0, r.1)

pub overflow_cast-result : goal.overflow_cast-result
overflow_cast-result c = let r = action_ready _ (sym c.in_ok-action_check.ensures) in omega (arith, c.action_count-n.ensures, r.1)
