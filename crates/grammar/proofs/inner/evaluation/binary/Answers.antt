use mathlib.Core.Path.{◌∙◌}
use Rattle.grammar.proofs.HeldLaws.{nothing, both_integers, both_booleans, none_first, none_second, integer_first, integer_second}
use Rattle.grammar.proofs.inner.evaluation.binary.Goals as goal

pub returns-then-b-lt-FALSE : goal.returns-then-b-lt-FALSE
returns-then-b-lt-FALSE c = c.integers.ensures ∙ both_integers _ _ _ c.if-a-lt-FALSE.true c.if-b-lt-FALSE.true

pub returns-then-a-lt-FALSE : goal.returns-then-a-lt-FALSE
returns-then-a-lt-FALSE c = nothing ∙ integer_first _ _ _ c.if-a-lt-FALSE.true c.if-b-lt-FALSE.false

pub returns-then-b-lt-FALSE-2 : goal.returns-then-b-lt-FALSE-2
returns-then-b-lt-FALSE-2 c = nothing ∙ integer_second _ _ _ c.if-a-lt-FALSE.false c.if-b-lt-FALSE-2.true

pub returns-then-a-gt-TRUE : goal.returns-then-a-gt-TRUE
returns-then-a-gt-TRUE c = nothing ∙ none_first _ _ _ c.if-a-gt-TRUE.true

pub returns-then-b-gt-TRUE : goal.returns-then-b-gt-TRUE
returns-then-b-gt-TRUE c = nothing ∙ none_second _ _ _ c.if-a-lt-FALSE.false c.if-a-gt-TRUE.false c.if-b-gt-TRUE.true

pub returns : goal.returns
returns c =
    c.booleans.ensures
    ∙ both_booleans _ _ _ c.if-a-lt-FALSE.false c.if-a-gt-TRUE.false
    c.if-b-lt-FALSE-2.false c.if-b-gt-TRUE.false
