use Rattle.std.proofs.Common.{arith, sym, true}
use Rattle.system_builder.proofs.SystemLaws.{words_of, channel_ready}
use Rattle.system_builder.proofs.new_channel.Goals as goal

pub channel_count-q-requires : goal.channel_count-q-requires
channel_count-q-requires c = words_of _ true (channel_ready _ _ _ (sym c.in_ok-channel_check.ensures)).formed

pub put_channel-requires : goal.put_channel-requires
put_channel-requires c =
    let r = channel_ready _ _ _ (sym c.in_ok-channel_check.ensures) in
    (words_of _ true r.formed, omega (arith, c.channel_count-q.ensures, r.more), r.few)

pub overflow_add-q : goal.overflow_add-q
overflow_add-q c = let r = channel_ready _ _ _ (sym c.in_ok-channel_check.ensures) in omega (arith, c.channel_count-q.ensures, r.more)

pub set_channel_count-requires : goal.set_channel_count-requires
set_channel_count-requires c = let r = channel_ready _ _ _ (sym c.in_ok-channel_check.ensures) in omega (arith, words_of _ true r.formed)

pub overflow_cast-result : goal.overflow_cast-result
overflow_cast-result c = let r = channel_ready _ _ _ (sym c.in_ok-channel_check.ensures) in omega (arith, c.channel_count-q.ensures, r.more)
