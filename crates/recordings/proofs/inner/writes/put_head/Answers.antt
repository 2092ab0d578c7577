use mathlib.Core.Path.{refl}
use native.Mathlib.Omega.{arith}
use lib.ListN.{length-set}
use lib.ListN.{replicate}
use Rattle.recordings.proofs.StoreLaws.{number_then}
use Rattle.recordings.proofs.inner.writes.put_head.Goals as goal

pub put_zeros-requires : goal.put_zeros-requires
put_zeros-requires c = simp length-set (omega arith)

pub returns : goal.returns
returns c =
    let l = number_then c.args.block.now 0 4 c.args.place 4 5 c.args.count (replicate 23 0) refl refl in
    cc (c.put_zeros.ensures, c.put_number.ensures, l)
