use Rattle.program_graph.proofs.inner.listing.entry_or_end.Goals as goal

pub returns-in-Found : goal.returns-in-Found
returns-in-Found c = rw c.in-Found.is
