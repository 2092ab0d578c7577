use Prim.Native.Nat.{◌+◌, ◌-◌, ◌*◌}
use mathlib.Core.Path.{◌≡◌, refl, ap, ◌∙◌}
use native.Mathlib.Omega.{arith}
use borrow.Author.Rules.{rules}
use lib.Seq.{sets}
use Rattle.recordings.specs.Numbers.{bytes_of}
use Rattle.recordings.specs.Writing.{part_of, joined}
use Rattle.recordings.proofs.DigitLaws.{length_bytes}
use Rattle.recordings.proofs.PartLaws.{length_part_of}
use Rattle.recordings.proofs.StoreLaws.{part_store}
use Rattle.recordings.proofs.inner.writes.put_posts.Goals as goal

pub loop-j-init : goal.loop-j-init
loop-j-init c =
    let s : c.args.at + 0 ≡ c.args.at = omega arith in
    (search rules, refl, rw s refl)

pub loop-j-preserved : goal.loop-j-preserved
loop-j-preserved c =
    let f = part_of (bytes_of 2) 2 c.args.posts.now in
    let wide = length_part_of (bytes_of 2) 2 (length_bytes 2) c.args.posts.now in (
      omega arith,
      search rules,
      ap (λ x. sets x (c.args.at + 2 * (c.loop-j.j + 1)) (joined f (c.loop-j.j + 1) (4 - (c.loop-j.j + 1)))) c.put_post.ensures
          ∙ (part_store f 2 wide c.loop-j.bytes c.args.at c.loop-j.j 4 (omega arith) ∙ c.loop-j.invariant.2),
    )

pub returns : goal.returns
unfolding joined
returns c =
    let e : 4 - c.loop-j.j ≡ 0 = omega arith in
    rw e at c.loop-j.invariant.2
