use Prim.Native.Nat.{◌+◌, ◌*◌}
use mathlib.Core.Path.{refl}
use lib.ListN.{length}
use borrow.Author.Tests.{eq-eqb, ne_eqb, le-leb, lt-leb, lt-ltb, le-ltb}
use Rattle.laws.specs.Ladder.{unless}
use Rattle.recordings.specs.Writing.{record_of, posts_of}
use Rattle.recordings.specs.Putting.{put_of}
use Rattle.recordings.proofs.StoreLaws.{fields_then}
use Rattle.recordings.proofs.RecordWriting.{length_posts}
use Rattle.recordings.proofs.writing.put_step.Goals as goal

pub returns-then-block-ne-BLOCK : goal.returns-then-block-ne-BLOCK
unfolding put_of unless
returns-then-block-ne-BLOCK c = let e = ne_eqb _ _ c.if-block-ne-BLOCK.true in (rw e refl, rw e refl)

pub returns-then-i-ge-RECORDS : goal.returns-then-i-ge-RECORDS
unfolding put_of unless
returns-then-i-ge-RECORDS c =
    let e = eq-eqb _ _ c.if-block-ne-BLOCK.false in
    let f = le-ltb _ _ c.if-i-ge-RECORDS.true in
    (rw (e, f) refl, rw (e, f) refl)

pub returns-then-posts-gt-POSTS : goal.returns-then-posts-gt-POSTS
unfolding put_of unless
returns-then-posts-gt-POSTS c =
    let e = eq-eqb _ _ c.if-block-ne-BLOCK.false in
    let f = lt-ltb _ _ c.if-i-ge-RECORDS.false in
    let k = lt-leb _ _ c.if-posts-gt-POSTS.true in
    (rw (e, f, k) refl, rw (e, f, k) refl)

pub returns : goal.returns
unfolding put_of unless record_of
returns c =
    let e = eq-eqb _ _ c.if-block-ne-BLOCK.false in
    let k = lt-ltb _ _ c.if-i-ge-RECORDS.false in
    let m = le-leb _ _ c.if-posts-gt-POSTS.false in
    let ps = c.args.posts.now in
    let whole =
    fields_then c.args.block.now (28 + 32 * c.args.i) 1 c.args.graph (length ps) c.args.action (posts_of ps) c.args.word
    c.args.answer (length_posts ps) in
    (rw (e, k, m) refl, rw (e, k, m) (cc (c.put_last.ensures, c.put_posts.ensures, c.put_front.ensures, whole)))
