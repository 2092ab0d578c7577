use Prim.Native.Nat.{ℕ, ◌+◌, ◌*◌}
use mathlib.Core.Path.{refl}
use borrow.Author.Tests.{eq-eqb, ne_eqb, lt-ltb, le-ltb}
use lib.ListN.{replicate, length-replicate}
use Rattle.laws.specs.Ladder.{unless}
use Rattle.recordings.specs.Writing.{record_of}
use Rattle.recordings.specs.Putting.{put_of}
use Rattle.recordings.proofs.StoreLaws.{fields_then}
use Rattle.recordings.proofs.writing.put_wait.Goals as goal

pub returns-then-block-ne-BLOCK : goal.returns-then-block-ne-BLOCK
unfolding put_of unless
returns-then-block-ne-BLOCK c = let e = ne_eqb _ _ c.if-block-ne-BLOCK.true in (rw e refl, rw e refl)

pub returns-then-i-ge-RECORDS : goal.returns-then-i-ge-RECORDS
unfolding put_of unless
returns-then-i-ge-RECORDS c =
    let e = eq-eqb _ _ c.if-block-ne-BLOCK.false in
    let f = le-ltb _ _ c.if-i-ge-RECORDS.true in
    (rw (e, f) refl, rw (e, f) refl)

pub returns : goal.returns
unfolding put_of unless record_of
returns c =
    let e = eq-eqb _ _ c.if-block-ne-BLOCK.false in
    let k = lt-ltb _ _ c.if-i-ge-RECORDS.false in
    let whole =
    fields_then c.args.block.now (28 + 32 * c.args.i) 2 0 0 c.args.delta (replicate 8 0) 0 c.args.answer
    (length-replicate {A = ℕ} 8 0) in
    (rw (e, k) refl, rw (e, k) (cc (c.put_last.ensures, c.put_zeros.ensures, c.put_front.ensures, whole)))
