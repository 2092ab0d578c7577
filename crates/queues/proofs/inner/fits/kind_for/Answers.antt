use Rattle.std.proofs.Common.{length, arith}
use Rattle.queues.proofs.MessageLaws.{slots_width}
use Rattle.queues.proofs.FitLaws.{kind_place_lem}
use Rattle.queues.proofs.inner.fits.kind_for.Goals as goal

pub nonzero_rem-result : goal.nonzero_rem-result
nonzero_rem-result c = omega (arith, slots_width (length c.args.kinds.now))

pub offset_bounds-kinds-i : goal.offset_bounds-kinds-i
offset_bounds-kinds-i c = omega (arith, kind_place_lem _ _ c.args.i c.slots_for-slots.ensures c.requires)

pub bounds-kinds-i : goal.bounds-kinds-i
bounds-kinds-i c =
    omega (arith, kind_place_lem _ _ c.args.i c.slots_for-slots.ensures c.requires)

pub returns : goal.returns
returns c = rw c.slots_for-slots.ensures
