use mathlib.Core.Path.{◌≡◌}
use lib.ListN.{length}
use Rattle.graph_tables.specs.Sizes.{clock_room}
use borrow.Author.Rules.{rules}
use Rattle.program_graph.proofs.WordLaws.{times_anew}
use Rattle.program_graph.proofs.inner.words.put_times.Goals as goal

pub returns : goal.returns
returns c =
    let size : length c.args.times ≡ clock_room = search rules in
    (rw c.widen.ensures.0 (times_anew c.args.r.now c.requires c.args.times size), c.widen.ensures.1)
