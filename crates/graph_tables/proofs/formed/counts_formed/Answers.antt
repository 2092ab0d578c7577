use Prim.Native.Nat.{ℕ}
use mathlib.Core.Path.{ap}
use lib.Dec.{leb}
use borrow.Author.Tests.{le-leb}
use Rattle.laws.proofs.BelowLaws.{and_yes}
use Rattle.graph_tables.specs.Sizes.{transition_room}
use Rattle.graph_tables.specs.Formed.{counts_formed}
use Rattle.graph_tables.proofs.formed.counts_formed.Goals as goal

pub returns : goal.returns
unfolding counts_formed
returns c =
    and_yes (le-leb _ _ (rw c.variable_count.ensures at c.if-variable_count-gt-VARIABLES.false))
    (and_yes (le-leb _ _ (rw c.clock_count.ensures at c.if-clock_count-gt-CLOCKS.false))
    (and_yes (le-leb _ _ (rw c.location_count.ensures at c.if-location_count-gt-LOCATIONS.false))
    (and_yes (le-leb _ _ (rw c.action_count.ensures at c.if-action_count-gt-ACTIONS.false))
    (and_yes (le-leb _ _ (rw c.process_count.ensures at c.if-process_count-gt-PROCESSES.false))
    (ap (λ (n : ℕ). leb n transition_room) c.transition_count.ensures)))))
