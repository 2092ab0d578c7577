use Rattle.std.proofs.Common.{arith}
use Rattle.graph_checks.proofs.checks.zero_at.Goals as goal

pub all_zero_inside-requires : goal.all_zero_inside-requires
all_zero_inside-requires c =
    let s = c.requires in
    let m = s.0.invariants _ s.1 in (
      s.0.words,
      omega (arith, c.invariant_group.ensures, s.1, s.0.counts.locations),
      omega (arith, c.invariant_count.ensures, m.few),
      λ i h. rw c.invariant_group.ensures (m.fit i (omega (arith, c.invariant_count.ensures, h))),
    )
