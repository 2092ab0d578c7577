use mathlib.Core.Path.{sym, ◌∙◌}
use Rattle.run_steps.proofs.KeyLaws.{other_key, same_key}
use Rattle.run_steps.proofs.inner.candidates.leads.Goals as goal

pub returns-then-key_of-key : goal.returns-then-key_of-key
returns-then-key_of-key c =
    other_key _ _ _ _ c.args.key c.args.k (λ e. c.if-key_of-key.true (c.key_of.ensures ∙ e))

pub returns : goal.returns
returns c =
    same_key _ _ _ _ c.args.key c.args.k (sym c.key_of.ensures ∙ c.if-key_of-key.false) c.passes.ensures
