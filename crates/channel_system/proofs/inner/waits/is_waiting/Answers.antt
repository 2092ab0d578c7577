use mathlib.Core.Path.{sym, ◌∙◌}
use Rattle.laws.proofs.BelowLaws.{and_yes, and_no}
use Rattle.channel_system.specs.Waits.{system_waits}
use Rattle.channel_system.proofs.inner.waits.is_waiting.Goals as goal

pub returns-else-can_wait : goal.returns-else-can_wait
unfolding system_waits
returns-else-can_wait c = c.if-can_wait.false ∙ and_no _ (sym c.can_wait.ensures ∙ c.if-can_wait.false)

pub returns-then-can_wait : goal.returns-then-can_wait
unfolding system_waits
returns-then-can_wait c = and_yes (sym c.can_wait.ensures ∙ c.if-can_wait.true) c.any_waits.ensures
