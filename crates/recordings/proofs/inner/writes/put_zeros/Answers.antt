use Rattle.std.proofs.Common.{◌+◌, ◌-◌, ◌≡◌, replicate, arith}
use Rattle.std.proofs.lemmas.List.{length-replicate}
use Rattle.recordings.proofs.PartLaws.{length_part}
use Rattle.recordings.proofs.StoreLaws.{part_written}
use Rattle.recordings.proofs.inner.writes.put_zeros.Goals as goal

pub returns : goal.returns
returns c =
    let at = c.args.at in
    let n = c.args.n in
    let e : at + n - at ≡ n = omega arith in
    let all = rw (e, length_part c.args.bytes.now at n c.requires) at (c.fill.ensures.after (λ y k. k)) in
    part_written c.args.bytes.now _ (replicate n 0) at n c.requires all (length-replicate n 0)
