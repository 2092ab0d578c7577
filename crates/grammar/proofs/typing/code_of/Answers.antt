use mathlib.Core.Path.{refl, ap, ◌∙◌}
use borrow.Author.Tests.{le-leb, lt-leb}
use Rattle.laws.proofs.Ladder.{passed, stopped}
use Rattle.grammar.specs.Typing.{type_of}
use Rattle.grammar.specs.Draws.{draws_of}
use Rattle.grammar.specs.Inner.{code_of}
use Rattle.grammar.specs.declared.typing.Typed.{Typed}
use Rattle.grammar.proofs.typing.code_of.Goals as goal

pub returns-then-items-gt-MOST_ITEMS : goal.returns-then-items-gt-MOST_ITEMS
unfolding type_of
returns-then-items-gt-MOST_ITEMS c = ap (λ (t : Typed). code_of t (draws_of c.args.items.now)) (stopped _ _ (lt-leb _ _ c.if-items-gt-MOST_ITEMS.true))

pub returns : goal.returns
unfolding type_of
returns c =
    c.code_of_run.ensures
    ∙ ap (λ (t : Typed). code_of t (draws_of c.args.items.now))
    (passed _ (le-leb _ _ c.if-items-gt-MOST_ITEMS.false) refl)
