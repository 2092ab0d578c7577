use Rattle.std.proofs.Common.{rules}
use mathlib.Core.Path.{sym, ◌∙◌}
use borrow.Author.Tests.{eq-eqb, ne_eqb}
use Rattle.laws.proofs.BelowLaws.{and_yes, and_no}
use Rattle.run_steps.specs.Messages.{value_fits, message_fits}
use Rattle.laws.proofs.Chains.{all_in_range}
use Rattle.run_steps.proofs.inner.messages.message_fits.Goals as goal

pub returns-then-message-n : goal.returns-then-message-n
unfolding message_fits
returns-then-message-n c = and_no _ (ne_eqb _ _ (λ z. c.if-message-n.true (z ∙ sym c.effect_count-n.ensures)))

pub returns : goal.returns
unfolding message_fits
returns c =
    and_yes (eq-eqb _ _ (c.if-message-n.false ∙ c.effect_count-n.ensures))
    (rw c.effect_count-n.ensures at
    (all_in_range (value_fits c.args.t.now c.args.a c.args.message) c.effect_count-n.result c.all.ensures.ran (λ x b t k. search rules)))
