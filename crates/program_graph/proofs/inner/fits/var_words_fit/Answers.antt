use borrow.Author.Tests.{eq-eqb, ne_eqb}
use Rattle.laws.proofs.BelowLaws.{and_yes, and_no}
use Rattle.program_graph.specs.Fits.{var_words_fit}
use Rattle.program_graph.proofs.inner.fits.var_words_fit.Goals as goal

pub returns-then-kind-kind_at : goal.returns-then-kind-kind_at
unfolding var_words_fit
returns-then-kind-kind_at c = and_no _ (ne_eqb _ _ (rw c.kind_at.ensures at c.if-kind-kind_at.true))

pub returns : goal.returns
unfolding var_words_fit
returns c =
    and_yes (eq-eqb _ _ (rw c.kind_at.ensures at c.if-kind-kind_at.false)) c.is_value.ensures
