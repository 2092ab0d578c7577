use Rattle.program_graph.proofs.inner.fresh.fresh.Goals as goal

pub returns : goal.returns
returns c =
    rw (
      c.clock_count.ensures,
      c.start_vars-vars.ensures,
      c.start_places-places.ensures,
      c.variable_count-variables.ensures,
      c.process_count-processes.ensures,
    )
