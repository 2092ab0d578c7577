use mathlib.Core.Path.{◌≡◌, ap, ◌∙◌}
use borrow.Author.Tests.{eq-eqb, ne_eqb}
use Rattle.laws.proofs.BelowLaws.{and_yes, and_no}
use Rattle.grammar.specs.Values.{kind_word}
use Rattle.grammar.specs.Slots.{val_of, kind_in, is_value}
use Rattle.grammar.proofs.inner.slots.is_value.Goals as goal
use Rattle.grammar.proofs.inner.slots.is_value.Goals.{After-word}

-- the word of the value's kind
kind_found : (c : After-word) → let a = c.args in c.word.result ≡ kind_in (val_of a.kind a.payload)
kind_found c = c.word.ensures ∙ ap kind_word c.kind.ensures ∙ ap kind_in c.value_of-x.ensures

pub returns-then-word-kind : goal.returns-then-word-kind
unfolding is_value
returns-then-word-kind c = and_no _ (ne_eqb _ _ (rw (kind_found (goal.at.returns-then-word-kind c).After-word) at c.if-word-kind.true))

pub returns : goal.returns
unfolding is_value
returns c =
    let w = c.before.before in
    and_yes (eq-eqb _ _ (rw (kind_found (goal.at.returns c).After-word) at c.if-word-kind.false))
    (rw (c.payload_of.ensures.0, w.value_of-x.ensures))
