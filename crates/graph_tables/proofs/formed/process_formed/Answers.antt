use Prim.Native.Nat.{◌<◌}
use native.Mathlib.Omega.{arith}
use Rattle.graph_tables.specs.Words.{location_count, invariant_count, invariant_group}
use Rattle.graph_tables.proofs.FormedLaws.{few_limits, limits_fit, location_limits}
use Rattle.graph_tables.proofs.formed.process_formed.Goals as goal

pub all_zero_inside-requires : goal.all_zero_inside-requires
all_zero_inside-requires c =
    let l = c.place_at-l.result in
    let t = c.args.t.now in
    let small : l < location_count t = omega (arith, c.location_count.ensures, c.if-location_count-l.false) in
    let formed = location_limits t (location_count t) l c.requires.3 small in (
      c.requires.0,
      omega (arith, c.requires.2, small, c.invariant_group.ensures),
      omega (arith, c.invariant_count.ensures, few_limits t (invariant_group l) (invariant_count t l) formed),
      λ i h. rw c.invariant_group.ensures (limits_fit t (invariant_group l) (invariant_count t l) formed i
          (omega (arith, c.invariant_count.ensures, h))),
    )
