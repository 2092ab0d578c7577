use Prim.Native.Nat.{◌+◌, ◌-◌}
use mathlib.Core.Path.{◌≡◌}
use mathlib.Core.List.{append_assoc}
use native.Mathlib.Omega.{arith}
use Rattle.std.proofs.lemmas.Slice.{between_is}
use Rattle.graph_edits.proofs.inner.rows.open_gap.Goals as goal

pub returns : goal.returns
returns c =
    let e : c.args.lo + c.args.w + (c.args.hi - c.args.lo) ≡ c.args.hi + c.args.w = omega arith in
    rw (c.copy_within.ensures.after, append_assoc, e, between_is c.args.t.now c.args.lo c.args.hi)
