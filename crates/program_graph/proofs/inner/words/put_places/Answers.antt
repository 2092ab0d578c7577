use mathlib.Core.Path.{◌≡◌}
use lib.ListN.{length}
use Rattle.graph_tables.specs.Sizes.{process_room}
use borrow.Author.Rules.{rules}
use Rattle.program_graph.proofs.WordLaws.{places_anew}
use Rattle.program_graph.proofs.inner.words.put_places.Goals as goal

pub returns : goal.returns
returns c =
    let size : length c.args.places ≡ process_room = search rules in
    (rw c.widen.ensures.0 (places_anew c.args.r.now c.requires c.args.places size), c.widen.ensures.1)
