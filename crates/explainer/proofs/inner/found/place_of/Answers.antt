use Prim.Native.Nat.{◌<◌}
use native.Mathlib.Omega.{arith}
use borrow.Author.Tests.{eq-eqb, ne_eqb}
use Rattle.graph_tables.specs.Sizes.{group_room}
use Rattle.run_steps.proofs.LimitLaws.{invariants_of_location}
use Rattle.explainer.specs.Cause.{place_of}
use Rattle.explainer.proofs.inner.found.place_of.Goals as goal
use Rattle.explainer.proofs.inner.found.place_of.Goals.{After-invariant_group}

pub guard_at-requires : goal.guard_at-requires
guard_at-requires c =
    (c.requires.1, omega (arith, c.requires.2.guard c.if-c-eq-GUARD.true, c.requires.0.counts.transitions))

pub guard_length-requires : goal.guard_length-requires
guard_length-requires c =
    (c.requires.0.words, omega (arith, c.requires.2.guard c.if-c-eq-GUARD.true, c.requires.0.counts.transitions))

pub returns-then-c-eq-GUARD : goal.returns-then-c-eq-GUARD
unfolding place_of
returns-then-c-eq-GUARD c = rw (eq-eqb _ _ c.if-c-eq-GUARD.true, c.guard_length.ensures, c.guard_at.ensures)

pub group_at-requires : goal.group_at-requires
group_at-requires c =
    (c.requires.1, omega (arith, (c.requires.2.limit c.if-c-eq-LIMIT.true).0, c.requires.0.counts.transitions))

pub overflow_mul-result : goal.overflow_mul-result
overflow_mul-result c =
    let l = c.requires.2.limit c.if-c-eq-LIMIT.true in
    omega (arith, l.1, (c.requires.0.transition _ l.0).limits.few)

pub overflow_add-result : goal.overflow_add-result
overflow_add-result c =
    let l = c.requires.2.limit c.if-c-eq-LIMIT.true in
    omega (arith, l.0, l.1, (c.requires.0.transition _ l.0).limits.few, c.requires.0.counts.transitions, c.requires.1, c.group_at.ensures)

pub returns-then-c-eq-LIMIT : goal.returns-then-c-eq-LIMIT
unfolding place_of
returns-then-c-eq-LIMIT c = rw (ne_eqb _ _ c.if-c-eq-GUARD.false, eq-eqb _ _ c.if-c-eq-LIMIT.true, c.group_at.ensures)

pub key_of-requires : goal.key_of-requires
key_of-requires c =
    (c.requires.0.words, omega (arith, (c.requires.2.invariant c.if-c-eq-INVARIANT.true).0, c.requires.0.counts.transitions))

pub invariant_group-requires : goal.invariant_group-requires
invariant_group-requires c =
    let l = c.requires.2.invariant c.if-c-eq-INVARIANT.true in
    rw (c.post_of-post.ensures, c.key_of.ensures) (omega (arith, (c.requires.0.transition _ l.0).post, c.requires.0.counts.locations))

-- the group of the invariants of a post-location is there
grouped : (c : After-invariant_group) → c.invariant_group.result < group_room
grouped c =
    let l = c.requires.2.invariant c.if-c-eq-INVARIANT.true in
    rw (c.invariant_group.ensures, c.post_of-post.ensures, c.key_of.ensures)
    (invariants_of_location c.requires.0 (c.requires.0.transition _ l.0).post).1

pub group_at-requires-then-c-eq-INVARIANT : goal.group_at-requires-then-c-eq-INVARIANT
group_at-requires-then-c-eq-INVARIANT c = (c.requires.1, grouped (goal.at.group_at-requires-then-c-eq-INVARIANT c).After-invariant_group)

pub overflow_mul-result-then-c-eq-INVARIANT : goal.overflow_mul-result-then-c-eq-INVARIANT
overflow_mul-result-then-c-eq-INVARIANT c =
    let l = c.requires.2.invariant c.if-c-eq-INVARIANT.true in
    omega (arith, l.1, (invariants_of_location c.requires.0 (c.requires.0.transition _ l.0).post).2.few)

pub overflow_add-result-then-c-eq-INVARIANT : goal.overflow_add-result-then-c-eq-INVARIANT
overflow_add-result-then-c-eq-INVARIANT c =
    let l = c.requires.2.invariant c.if-c-eq-INVARIANT.true in
    omega (
      arith,
      l.1,
      (invariants_of_location c.requires.0 (c.requires.0.transition _ l.0).post).2.few,
      grouped (goal.at.overflow_add-result-then-c-eq-INVARIANT c).After-invariant_group,
      c.requires.1,
      c.group_at-then-c-eq-INVARIANT.ensures,
    )

pub returns-then-c-eq-INVARIANT : goal.returns-then-c-eq-INVARIANT
unfolding place_of
returns-then-c-eq-INVARIANT c =
    rw (
      ne_eqb _ _ c.if-c-eq-GUARD.false,
      ne_eqb _ _ c.if-c-eq-LIMIT.false,
      eq-eqb _ _ c.if-c-eq-INVARIANT.true,
      c.group_at-then-c-eq-INVARIANT.ensures,
      c.invariant_group.ensures,
      c.post_of-post.ensures,
      c.key_of.ensures,
    )

pub returns : goal.returns
unfolding place_of
returns c = rw (ne_eqb _ _ c.if-c-eq-GUARD.false, ne_eqb _ _ c.if-c-eq-LIMIT.false, ne_eqb _ _ c.if-c-eq-INVARIANT.false)
