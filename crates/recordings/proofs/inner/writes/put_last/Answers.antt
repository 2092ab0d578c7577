use Prim.Native.Nat.{◌+◌}
use mathlib.Core.Path.{refl}
use native.Mathlib.Omega.{arith}
use lib.ListN.{length-set}
use lib.ListN.{replicate}
use Rattle.recordings.proofs.StoreLaws.{number_then}
use Rattle.recordings.proofs.inner.writes.put_last.Goals as goal

pub put_zeros-requires : goal.put_zeros-requires
put_zeros-requires c = simp length-set (omega arith)

pub returns : goal.returns
returns c =
    let at = c.args.at in
    let l = number_then c.args.bytes.now at 8 c.args.word (at + 8) (at + 8 + 1) c.args.answer (replicate 7 0) refl (omega arith) in
    cc (c.put_zeros.ensures, c.put_number.ensures, l)
