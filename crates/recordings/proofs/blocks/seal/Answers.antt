use mathlib.Core.Path.{refl}
use borrow.Author.Tests.{eq-eqb, ne_eqb, le-leb, lt-leb}
use Rattle.laws.specs.Ladder.{unless}
use Rattle.recordings.specs.Putting.{seal_of}
use Rattle.recordings.proofs.blocks.seal.Goals as goal

pub returns-then-block-ne-BLOCK : goal.returns-then-block-ne-BLOCK
unfolding seal_of unless
returns-then-block-ne-BLOCK c = let e = ne_eqb _ _ c.if-block-ne-BLOCK.true in (rw e refl, rw e refl)

pub returns-then-count-gt-RECORDS : goal.returns-then-count-gt-RECORDS
unfolding seal_of unless
returns-then-count-gt-RECORDS c =
    let e = eq-eqb _ _ c.if-block-ne-BLOCK.false in
    let f = lt-leb _ _ c.if-count-gt-RECORDS.true in
    (rw (e, f) refl, rw (e, f) refl)

pub returns : goal.returns
unfolding seal_of unless
returns c =
    let e = eq-eqb _ _ c.if-block-ne-BLOCK.false in
    let k = le-leb _ _ c.if-count-gt-RECORDS.false in
    (rw (e, k) refl, rw (e, k) (cc (c.put_number.ensures, c.sum-total.ensures, c.put_zeros.ensures, c.put_head.ensures)))
