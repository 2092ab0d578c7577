use Rattle.system_tables.proofs.inner.writers.set_capacity.Goals as goal

pub returns-in-Bounded : goal.returns-in-Bounded
returns-in-Bounded c =
    rw (c.set_bound.ensures, c.set_sort.ensures, c.in-Bounded.is)

pub returns-in-Unbounded : goal.returns-in-Unbounded
returns-in-Unbounded c = rw (c.set_sort-in-Unbounded.ensures, c.in-Unbounded.is)

pub returns-in-Sink : goal.returns-in-Sink
returns-in-Sink c = rw (c.set_sort-in-Sink.ensures, c.in-Sink.is)
