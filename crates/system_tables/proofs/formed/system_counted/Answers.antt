use borrow.Author.Tests.{le-leb, lt-leb}
use Rattle.laws.proofs.BelowLaws.{and_yes, and_no}
use Rattle.system_tables.specs.Formed.{system_counted}
use Rattle.system_tables.proofs.formed.system_counted.Goals as goal

pub returns-then-graph_count-gt-GRAPHS : goal.returns-then-graph_count-gt-GRAPHS
unfolding system_counted
returns-then-graph_count-gt-GRAPHS c = and_no _ (lt-leb _ _ (rw c.graph_count.ensures at c.if-graph_count-gt-GRAPHS.true))

pub returns : goal.returns
unfolding system_counted
returns c =
    and_yes (le-leb _ _ (rw c.graph_count.ensures at c.if-graph_count-gt-GRAPHS.false)) (rw c.channel_count.ensures)
