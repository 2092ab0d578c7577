use Rattle.std.proofs.Common.{◌<◌, length, add-one, arith}
use Rattle.std.proofs.Math.Seq.{take-suc}
use Rattle.text.proofs.Places.{both}
use Rattle.text.proofs.output.put_all.Goals as goal

pub loop-byte-preserved : goal.loop-byte-preserved
loop-byte-preserved c =
    let h : c.loop-byte.byte-index < length c.args.bytes.now = omega arith in
    rw (add-one, take-suc c.args.bytes.now c.loop-byte.byte-index 0) (both c.loop-byte.invariant c.put-here.ensures)
