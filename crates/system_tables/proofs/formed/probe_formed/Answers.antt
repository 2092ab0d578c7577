use Rattle.laws.proofs.BelowLaws.{and_yes, and_no}
use Rattle.laws.proofs.Tests.{held, failed}
use Rattle.system_tables.specs.Formed.{probe_formed}
use Rattle.system_tables.proofs.formed.probe_formed.Goals as goal

pub returns-then-not-is_probe : goal.returns-then-not-is_probe
unfolding probe_formed
returns-then-not-is_probe c = and_no _ (failed c.is_probe.ensures c.if-not-is_probe.true)

pub returns-then-not-is_send : goal.returns-then-not-is_send
unfolding probe_formed
returns-then-not-is_send c =
    and_yes (held c.is_probe.ensures c.if-not-is_probe.false) (and_no _ (failed c.is_send.ensures c.if-not-is_send.true))

pub returns : goal.returns
unfolding probe_formed
returns c =
    and_yes (held c.is_probe.ensures c.if-not-is_probe.false)
    (and_yes (held c.is_send.ensures c.if-not-is_send.false) (rw c.message_count.ensures))
