use Rattle.std.proofs.Common.{sym, ◌∙◌}
use Rattle.system_builder.proofs.SystemLaws.{read_ready}
use Rattle.system_builder.proofs.channel.Goals as goal

pub kinds_at-kinds-requires : goal.kinds_at-kinds-requires
kinds_at-kinds-requires c = let r = read_ready _ _ (sym c.read_check-check.ensures ∙ c.in_default.is) in (r.words, r.channel)

pub capacity_of-capacity-requires : goal.capacity_of-capacity-requires
capacity_of-capacity-requires c = let r = read_ready _ _ (sym c.read_check-check.ensures ∙ c.in_default.is) in (r.words, r.channel, r.bound)
