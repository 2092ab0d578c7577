use mathlib.Core.Path.{sym, ◌∙◌}
use Rattle.channel_system.proofs.StepLaws.{spoken_speaks}
use Rattle.channel_system.proofs.inner.steps.step_as.Goals as goal

pub communicate-requires : goal.communicate-requires
communicate-requires c =
    (c.requires, spoken_speaks c.args.t.now c.args.g c.args.a _ _ (sym c.spoken_by.ensures ∙ c.in-On.is))

pub returns-in-Plain : goal.returns-in-Plain
returns-in-Plain c =
    rw (sym c.spoken_by.ensures ∙ c.in-Plain.is) c.plain_step.ensures

pub returns-in-On : goal.returns-in-On
returns-in-On c =
    rw (sym c.spoken_by.ensures ∙ c.in-On.is) c.communicate.ensures
