use mathlib.Core.Path.{ap, ◌∙◌}
use Rattle.program_graph.specs.FreshWords.{fresh_places, fresh_kinds, fresh_payloads, fresh_clocks, fresh_words}
use Rattle.program_graph.proofs.inner.fresh_words.fresh_words.Goals as goal

pub returns : goal.returns
unfolding fresh_words
returns c =
    let t = c.args.t.now in
    c.put_clocks.ensures
    ∙ ap (fresh_clocks t) (c.put_payloads.ensures
    ∙ ap (fresh_payloads t) (c.put_kinds.ensures
    ∙ ap (fresh_kinds t) (c.put_places.ensures
    ∙ ap (fresh_places t) c.put_counts.ensures)))
