use Rattle.laws.proofs.BelowLaws.{and_yes, and_no}
use Rattle.laws.proofs.Tests.{held, failed}
use Rattle.program_graph.specs.Fits.{run_words_fit}
use Rattle.program_graph.proofs.inner.fits.run_words_fit.Goals as goal

pub returns-then-not-word_counts_same : goal.returns-then-not-word_counts_same
unfolding run_words_fit
returns-then-not-word_counts_same c = and_no _ (failed c.word_counts_same.ensures c.if-not-word_counts_same.true)

pub returns-then-not-all_places_known : goal.returns-then-not-all_places_known
unfolding run_words_fit
returns-then-not-all_places_known c =
    and_yes (held c.word_counts_same.ensures c.if-not-word_counts_same.false) (and_no _ (failed c.all_places_known.ensures c.if-not-all_places_known.true))

pub returns-then-not-all_vars_fit : goal.returns-then-not-all_vars_fit
unfolding run_words_fit
returns-then-not-all_vars_fit c =
    and_yes (held c.word_counts_same.ensures c.if-not-word_counts_same.false)
    (and_yes (held c.all_places_known.ensures c.if-not-all_places_known.false) (and_no _ (failed c.all_vars_fit.ensures c.if-not-all_vars_fit.true)))

pub returns : goal.returns
unfolding run_words_fit
returns c =
    and_yes (held c.word_counts_same.ensures c.if-not-word_counts_same.false)
    (and_yes (held c.all_places_known.ensures c.if-not-all_places_known.false)
    (and_yes (held c.all_vars_fit.ensures c.if-not-all_vars_fit.false) c.all_clocks_fit.ensures))
