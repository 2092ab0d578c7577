use Prim.Native.Nat.{◌+◌, ◌-◌, ◌<◌}
use mathlib.Core.Path.{◌≡◌, refl, sym, ◌∙◌}
use native.Mathlib.Omega.{arith}
use Rattle.recordings.specs.Numbers.{part, bytes_of}
use Rattle.recordings.proofs.DigitLaws.{length_bytes}
use Rattle.recordings.proofs.PartLaws.{length_part}
use Rattle.recordings.proofs.StoreLaws.{part_written, sets_whole, number_store}
use Rattle.recordings.proofs.inner.writes.put_number.Goals as goal

pub loop-b-init : goal.loop-b-init
loop-b-init c =
    let e : c.args.n - 0 ≡ c.args.n = omega arith in
    rw e refl

pub loop-b-preserved : goal.loop-b-preserved
loop-b-preserved c =
    let n = c.args.n in
    let at = c.args.at in
    let i = c.loop-b.b-index in
    let e : at + n - at ≡ n = omega arith in
    let below : i < n = rw (e, length_part c.args.bytes.now at n c.requires) at c.loop-b-test.true in
    let s : 0 + i ≡ i = omega arith in
    let t : 0 + (i + 1) ≡ i + 1 = omega arith in
    rw (s, t) at (number_store c.loop-b.b-items 0 i n c.loop-b.rest below) ∙ c.loop-b.invariant

pub returns : goal.returns
unfolding bytes_of
returns c =
    let n = c.args.n in
    let at = c.args.at in
    let b = c.args.bytes.now in
    let e : at + n - at ≡ n = omega arith in
    let long = length_part b at n c.requires in
    let past = rw (e, long) at c.loop-b-test.false in
    let none : n - c.loop-b.b-index ≡ 0 = omega arith in
    let items = rw (none, e) at c.loop-b.invariant in
    part_written b c.loop-b.b-items (bytes_of n c.args.x) at n c.requires
    (items ∙ sets_whole (part b at n) (bytes_of n c.args.x) (length_bytes n c.args.x ∙ sym long)) (length_bytes n c.args.x)
