use Prim.Native.Nat.{◌<◌}
use mathlib.Core.Path.{◌∙◌, ap}
use native.Mathlib.Omega.{arith}
use borrow.Author.Rules.{rules}
use Rattle.graph_tables.specs.Words.{action_count, epsilon}
use Rattle.run_steps.specs.Listing.{join_below}
use Rattle.run_steps.proofs.ListingLaws.{first_found, first_passed, join_none, join_more, join_found, join_done}
use Rattle.system_tables.specs.Words.{graph_part}
use Rattle.channel_system.specs.Listing.{entries_by}
use Rattle.channel_system.proofs.inner.listing.seek_on.Goals as goal

pub action_count-a-end-requires : goal.action_count-a-end-requires
action_count-a-end-requires c =
    rw c.graph_at.ensures (c.requires.table.graph c.args.g c.requires.known).words

pub loop-a-init : goal.loop-a-init
loop-a-init c = (search rules, c.action_count-a-end.ensures ∙ ap action_count c.graph_at.ensures, join_none _ _)

pub overflow_cast-a : goal.overflow_cast-a
overflow_cast-a c =
    omega (arith, c.loop-a.invariant.1, (c.requires.table.graph c.args.g c.requires.known).counts.actions)

pub returns-in_default : goal.returns-in_default
returns-in_default c =
    let x = c.args in
    let by = entries_by x.t.now x.s.now x.g in
    let n = action_count (graph_part x.t.now x.g) in
    let found = c.in_default.is in
    let known : c.loop-a.a < n = rw c.loop-a.invariant.1 at c.loop-a-test.true in
    first_found (by epsilon) (join_below n by) x.k
    (join_found by x.k n c.loop-a.a known c.loop-a.invariant.2 c.seek_action-sought.ensures found)
    found

pub loop-a-preserved : goal.loop-a-preserved
loop-a-preserved c =
    let l = c.loop-a in
    (omega arith, l.invariant.1, join_more _ _ l.a l.invariant.2 c.seek_action-sought.ensures c.in-Left.is)

pub returns : goal.returns
returns c =
    let x = c.args in
    let by = entries_by x.t.now x.s.now x.g in
    let n = action_count (graph_part x.t.now x.g) in
    first_passed (by epsilon) (join_below n by) x.k
    (join_done by x.k n c.loop-a.a (omega (arith, c.loop-a.invariant.1)) (omega (arith, c.loop-a.invariant.1)) c.loop-a.invariant.2)
    c.seek_action.ensures
