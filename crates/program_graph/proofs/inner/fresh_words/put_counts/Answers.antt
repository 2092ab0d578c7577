use Rattle.program_graph.proofs.inner.fresh_words.put_counts.Goals as goal

pub returns : goal.returns
returns c =
    rw (c.process_count.ensures, c.variable_count.ensures, c.clock_count.ensures)
