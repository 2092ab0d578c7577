use Rattle.program_graph.proofs.inner.used.used_run.Goals as goal

pub returns : goal.returns
returns c =
    cc (c.used_places-places.ensures, c.used_vars-vars.ensures, c.used_times-times.ensures)
