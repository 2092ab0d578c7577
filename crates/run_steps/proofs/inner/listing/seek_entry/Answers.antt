use native.Mathlib.Omega.{arith}
use lib.ListN.{length}
use borrow.Author.Rules.{rules}
use Rattle.grammar.specs.Slots.{slots_of}
use Rattle.graph_tables.specs.Words.{action_count, epsilon}
use Rattle.run_steps.specs.Listing.{join_below, shared_entries}
use Rattle.run_steps.proofs.ListingLaws.{first_found, first_passed, join_none, join_more, join_found, join_done}
use Rattle.run_steps.proofs.inner.listing.seek_entry.Goals as goal

pub loop-a-init : goal.loop-a-init
loop-a-init c = (search rules, join_none _ _)

pub overflow_cast-a : goal.overflow_cast-a
overflow_cast-a c =
    omega (arith, c.requires.0.counts.actions)

pub returns-in_default : goal.returns-in_default
returns-in_default c =
    let x = c.args in
    let shared = shared_entries x.t.now (slots_of x.vars.now) x.clocks.now x.places.now (length x.places.now) in
    let found = c.in_default.is in
    first_found (shared epsilon) (join_below (action_count x.t.now) shared) x.number
    (join_found shared x.number (action_count x.t.now) c.loop-a.a (omega arith) c.loop-a.invariant.1 c.seek_action-sought.ensures found)
    found

pub loop-a-preserved : goal.loop-a-preserved
loop-a-preserved c =
    let l = c.loop-a in
    (omega arith, join_more _ _ l.a l.invariant.1 c.seek_action-sought.ensures c.in-Left.is)

pub returns : goal.returns
returns c =
    let x = c.args in
    let shared = shared_entries x.t.now (slots_of x.vars.now) x.clocks.now x.places.now (length x.places.now) in
    first_passed (shared epsilon) (join_below (action_count x.t.now) shared) x.number
    (join_done shared x.number (action_count x.t.now) c.loop-a.a (omega arith) (omega arith) c.loop-a.invariant.1)
    c.seek_action.ensures
