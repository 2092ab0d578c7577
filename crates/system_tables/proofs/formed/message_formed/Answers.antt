use mathlib.Core.Path.{sym, ◌∙◌}
use borrow.Author.Tests.{eq-eqb, ne_eqb}
use Rattle.laws.proofs.BelowLaws.{and_yes, and_no}
use Rattle.system_tables.specs.Formed.{send_fits, receive_fits, message_formed}
use Rattle.system_tables.proofs.formed.message_formed.Goals as goal

pub returns-then-is_send : goal.returns-then-is_send
unfolding message_formed send_fits
returns-then-is_send c =
    rw (eq-eqb _ _ c.if-k-eq-SEND.true) (and_yes (sym c.is_send.ensures ∙ c.if-is_send.true) c.message_fits.ensures)

pub returns-else-is_send : goal.returns-else-is_send
unfolding message_formed send_fits
returns-else-is_send c =
    rw (eq-eqb _ _ c.if-k-eq-SEND.true) (c.if-is_send.false ∙ and_no _ (sym c.is_send.ensures ∙ c.if-is_send.false))

pub returns-then-is_receive : goal.returns-then-is_receive
unfolding message_formed receive_fits
returns-then-is_receive c =
    rw (ne_eqb _ _ c.if-k-eq-SEND.false, eq-eqb _ _ c.if-k-eq-RECEIVE.true)
    (and_yes (sym c.is_receive.ensures ∙ c.if-is_receive.true) c.message_fits-then-is_receive.ensures)

pub returns-else-is_receive : goal.returns-else-is_receive
unfolding message_formed receive_fits
returns-else-is_receive c =
    rw (ne_eqb _ _ c.if-k-eq-SEND.false, eq-eqb _ _ c.if-k-eq-RECEIVE.true)
    (c.if-is_receive.false ∙ and_no _ (sym c.is_receive.ensures ∙ c.if-is_receive.false))

pub returns : goal.returns
unfolding message_formed
returns c = rw (ne_eqb _ _ c.if-k-eq-SEND.false, ne_eqb _ _ c.if-k-eq-RECEIVE.false) c.probe_formed.ensures
