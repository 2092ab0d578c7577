use Rattle.program_graph.proofs.WordLaws.{stored_all}
use Rattle.program_graph.proofs.inner.words.store.Goals as goal

pub returns : goal.returns
returns c =
    stored_all c.args.run c.args.r.now c.put_counts.new.r c.put_places.new.r c.put_times.new.r
    c.put_vars.new.ws c.requires.0
    c.put_counts.ensures c.put_places.ensures.0 c.put_places.ensures.1 c.put_times.ensures.0 c.put_times.ensures.1
    c.put_vars.ensures.0 c.put_vars.ensures.1
