use mathlib.Core.Path.{sym, ◌∙◌}
use Rattle.laws.proofs.BelowLaws.{and_yes, and_no}
use Rattle.channel_system.specs.Waits.{wait_open}
use Rattle.run_steps.proofs.LowestLaws.{lowest_tells}
use Rattle.channel_system.proofs.inner.waits.can_wait.Goals as goal

pub returns-else-all_fit : goal.returns-else-all_fit
unfolding wait_open
returns-else-all_fit c = c.if-all_fit.false ∙ and_no _ (sym c.all_fit.ensures ∙ c.if-all_fit.false)

pub objector-requires : goal.objector-requires
objector-requires c =
    (c.requires.0, c.requires.1, sym c.all_fit.ensures ∙ c.if-all_fit.true)

pub returns-then-all_fit : goal.returns-then-all_fit
unfolding wait_open
returns-then-all_fit c =
    and_yes (sym c.all_fit.ensures ∙ c.if-all_fit.true)
    (rw (c.objector.ensures, c.graph_count.ensures) (lowest_tells _ _))
