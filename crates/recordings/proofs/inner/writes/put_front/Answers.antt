use mathlib.Core.Path.{◌∙◌}
use native.Mathlib.Omega.{arith}
use lib.ListN.{length-set}
use Rattle.recordings.specs.Numbers.{bytes_of}
use Rattle.recordings.proofs.StoreLaws.{four_then}
use Rattle.recordings.proofs.inner.writes.put_front.Goals as goal

pub bounds-bytes-at-2 : goal.bounds-bytes-at-2
bounds-bytes-at-2 c = simp length-set (omega arith)

pub bounds-bytes-at-3 : goal.bounds-bytes-at-3
bounds-bytes-at-3 c = simp length-set (omega arith)

pub bounds-bytes-at-4 : goal.bounds-bytes-at-4
bounds-bytes-at-4 c = simp length-set (omega arith)

pub put_number-requires : goal.put_number-requires
put_number-requires c = simp length-set (omega arith)

pub returns : goal.returns
returns c =
    c.put_number.ensures
    ∙ four_then c.args.bytes.now c.args.at c.args.kind c.args.graph c.args.count 0 (bytes_of 4 c.args.amount)
