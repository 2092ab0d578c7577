use Rattle.std.proofs.Common.{arith, sym, true}
use Rattle.graph_checks.proofs.ReadyActions.{receive_ready}
use Rattle.graph_builder.proofs.BuildingLaws.{words_of}
use Rattle.graph_builder.proofs.new_receive.Goals as goal

pub action_count-n-requires : goal.action_count-n-requires
action_count-n-requires c = words_of _ true (receive_ready _ _ (sym c.in_ok-receive_check.ensures)).formed

pub put_receive-requires : goal.put_receive-requires
put_receive-requires c = let r = receive_ready _ _ (sym c.in_ok-receive_check.ensures) in (words_of _ true r.formed, r.room, r.few)

pub overflow_cast-result : goal.overflow_cast-result
overflow_cast-result c = let r = receive_ready _ _ (sym c.in_ok-receive_check.ensures) in omega (arith, c.action_count-n.ensures, r.room)
