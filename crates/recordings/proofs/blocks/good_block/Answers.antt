use mathlib.Core.Path.{sym, ◌∙◌}
use borrow.Author.Tests.{eq-eqb, ne_eqb}
use Rattle.laws.proofs.Tests.{held, failed}
use Rattle.laws.proofs.BelowLaws.{and_yes, and_no}
use Rattle.recordings.specs.Blocks.{good_block}
use Rattle.recordings.proofs.blocks.good_block.Goals as goal

pub returns-then-b-ne-BLOCK : goal.returns-then-b-ne-BLOCK
unfolding good_block
returns-then-b-ne-BLOCK c = and_no _ (ne_eqb _ _ c.if-b-ne-BLOCK.true)

pub returns-then-number-place : goal.returns-then-number-place
unfolding good_block
returns-then-number-place c =
    and_yes (eq-eqb _ _ c.if-b-ne-BLOCK.false) (and_no _ (ne_eqb _ _ (rw c.number.ensures.0 at c.if-number-place.true)))

pub returns-then-not-good_count : goal.returns-then-not-good_count
unfolding good_block
returns-then-not-good_count c =
    and_yes (eq-eqb _ _ c.if-b-ne-BLOCK.false)
    (and_yes (eq-eqb _ _ (sym c.number.ensures.0 ∙ c.if-number-place.false))
    (and_no _ (failed c.good_count.ensures c.if-not-good_count.true)))

pub returns-then-not-zeros : goal.returns-then-not-zeros
unfolding good_block
returns-then-not-zeros c =
    and_yes (eq-eqb _ _ c.if-b-ne-BLOCK.false)
    (and_yes (eq-eqb _ _ (sym c.number.ensures.0 ∙ c.if-number-place.false))
    (and_yes (held c.good_count.ensures c.if-not-good_count.false)
    (and_no _ (failed c.zeros.ensures c.if-not-zeros.true))))

pub returns-then-number-sum : goal.returns-then-number-sum
unfolding good_block
returns-then-number-sum c =
    and_yes (eq-eqb _ _ c.if-b-ne-BLOCK.false)
    (and_yes (eq-eqb _ _ (sym c.number.ensures.0 ∙ c.if-number-place.false))
    (and_yes (held c.good_count.ensures c.if-not-good_count.false)
    (and_yes (held c.zeros.ensures c.if-not-zeros.false)
    (and_no _ (ne_eqb _ _ (rw (c.number-2.ensures.0, c.sum.ensures) at c.if-number-sum.true))))))

pub returns : goal.returns
unfolding good_block
returns c =
    and_yes (eq-eqb _ _ c.if-b-ne-BLOCK.false)
    (and_yes (eq-eqb _ _ (sym c.number.ensures.0 ∙ c.if-number-place.false))
    (and_yes (held c.good_count.ensures c.if-not-good_count.false)
    (and_yes (held c.zeros.ensures c.if-not-zeros.false)
    (and_yes (eq-eqb _ _ (sym c.number-2.ensures.0 ∙ (c.if-number-sum.false ∙ c.sum.ensures)))
    c.good_slots.ensures))))
