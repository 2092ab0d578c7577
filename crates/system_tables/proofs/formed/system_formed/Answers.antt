use borrow.Author.Tests.{eq-eqb, ne_eqb}
use Rattle.laws.proofs.BelowLaws.{and_yes, and_no}
use Rattle.laws.proofs.Tests.{held, failed}
use Rattle.system_tables.specs.Formed.{system_formed}
use Rattle.system_tables.proofs.formed.system_formed.Goals as goal

pub returns-then-t-ne-WORDS : goal.returns-then-t-ne-WORDS
unfolding system_formed
returns-then-t-ne-WORDS c = and_no _ (ne_eqb _ _ c.if-t-ne-WORDS.true)

pub returns-then-not-system_counted : goal.returns-then-not-system_counted
unfolding system_formed
returns-then-not-system_counted c =
    and_yes (eq-eqb _ _ c.if-t-ne-WORDS.false) (and_no _ (failed c.system_counted.ensures c.if-not-system_counted.true))

pub members_formed-requires : goal.members_formed-requires
members_formed-requires c =
    (c.if-t-ne-WORDS.false, held c.system_counted.ensures c.if-not-system_counted.false)

pub returns : goal.returns
unfolding system_formed
returns c =
    and_yes (eq-eqb _ _ c.if-t-ne-WORDS.false) (and_yes (held c.system_counted.ensures c.if-not-system_counted.false) c.members_formed.ensures)
