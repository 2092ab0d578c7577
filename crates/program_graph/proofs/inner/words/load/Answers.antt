use Rattle.program_graph.proofs.inner.words.load.Goals as goal

pub returns : goal.returns
returns c =
    cc (c.get_places-places.ensures, c.get_times-times.ensures, c.vars_over-vars.ensures)
