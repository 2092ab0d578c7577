use Prim.Native.Nat.{◌+◌, ◌-◌, ◌≤◌, ◌<◌}
use mathlib.Core.Path.{◌≡◌, sym, ◌∙◌}
use native.Mathlib.Omega.{arith}
use Rattle.graph_tables.specs.Sizes.{item_room, transition_room}
use Rattle.graph_tables.specs.Words.{guard_length}
use Rattle.explainer.specs.Same.{guard_same}
use Rattle.explainer.proofs.SameLaws.{guard_lent, guard_built}
use Rattle.explainer.proofs.inner.same.guard_same.Goals as goal
use Rattle.explainer.proofs.inner.same.guard_same.Goals.{Start}

-- its items are few
short : (s : Start) → guard_length s.args.t.now s.args.k ≤ item_room
short s = (s.requires.0.transition _ s.requires.3).guard.short

pub guard_at-from-requires : goal.guard_at-from-requires
guard_at-from-requires c = (c.requires.2, omega (arith, c.requires.3, c.requires.0.counts.transitions))

pub guard_length-requires : goal.guard_length-requires
guard_length-requires c = (c.requires.0.words, omega (arith, c.requires.3, c.requires.0.counts.transitions))

pub overflow_add-to : goal.overflow_add-to
overflow_add-to c =
    omega (arith, short (goal.at.overflow_add-to c).Start, c.requires.2, c.requires.3, c.requires.0.counts.transitions, c.guard_length.ensures, c.guard_at-from.ensures)

pub guard_items-requires : goal.guard_items-requires
guard_items-requires c = (c.requires.0.words, omega (arith, c.requires.3, c.requires.0.counts.transitions), short (goal.at.guard_items-requires c).Start)

pub all_same-requires : goal.all_same-requires
all_same-requires c =
    let few : c.args.k < transition_room = omega (arith, c.requires.3, c.requires.0.counts.transitions) in
    let from = c.guard_at-from.result in
    let e : from + c.guard_length.result - from ≡ c.guard_length.result = omega arith in
    rw (e, c.guard_length.ensures, c.guard_at-from.ensures, c.guard_items.ensures)
    (guard_lent c.args.guards.now c.args.g c.args.k _ c.requires.1 c.requires.2 few (short (goal.at.all_same-requires c).Start)
    ∙ sym (guard_built c.args.t.now c.args.k _ c.requires.0.words few (short (goal.at.all_same-requires c).Start)))

pub returns : goal.returns
unfolding guard_same
returns c =
    let from = c.guard_at-from.result in
    let e : from + c.guard_length.result - from ≡ c.guard_length.result = omega arith in
    c.all_same.ensures ∙ rw (e, c.guard_length.ensures, c.guard_at-from.ensures, c.guard_items.ensures)
