use Rattle.std.proofs.Common.{arith, sym, true}
use Rattle.graph_checks.proofs.ReadyActions.{send_ready}
use Rattle.graph_builder.proofs.BuildingLaws.{words_of}
use Rattle.graph_builder.proofs.new_send.Goals as goal

pub action_count-n-requires : goal.action_count-n-requires
action_count-n-requires c = words_of _ true (send_ready _ _ _ (sym c.in_ok-send_check.ensures)).formed

pub put_send-requires : goal.put_send-requires
put_send-requires c = let r = send_ready _ _ _ (sym c.in_ok-send_check.ensures) in (words_of _ true r.formed, r.room, r.few, λ i l. (r.expression i l).0)

pub overflow_cast-result : goal.overflow_cast-result
overflow_cast-result c = let r = send_ready _ _ _ (sym c.in_ok-send_check.ensures) in omega (arith, c.action_count-n.ensures, r.room)
