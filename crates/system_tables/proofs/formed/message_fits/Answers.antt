use borrow.Author.Tests.{eq-eqb, ne_eqb}
use Rattle.laws.proofs.BelowLaws.{and_yes, and_no}
use Rattle.system_tables.specs.Formed.{value_fits, message_fits}
use borrow.Author.Rules.{rules}
use Rattle.laws.proofs.Chains.{all_in_range}
use Rattle.system_tables.proofs.formed.message_fits.Goals as goal

pub returns-then-message_count-w : goal.returns-then-message_count-w
unfolding message_fits
returns-then-message_count-w c =
    and_no _ (ne_eqb _ _ (rw (c.message_count.ensures, c.width_of-w.ensures) at c.if-message_count-w.true))

pub returns : goal.returns
unfolding message_fits
returns c =
    and_yes (eq-eqb _ _ (rw (c.message_count.ensures, c.width_of-w.ensures) at c.if-message_count-w.false))
    (rw c.width_of-w.ensures at (all_in_range (value_fits c.args.t.now c.args.q c.args.graph.now c.args.a) c.width_of-w.result c.all.ensures.ran (λ x b t k. search rules)))
