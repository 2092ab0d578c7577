use Prim.Native.Nat.{suc, ◌+◌, ◌*◌}
use mathlib.Core.Path.{◌≡◌, refl, sym, ◌∙◌}
use native.Mathlib.Omega.{arith}
use lib.ListN.{set, length-set}
use borrow.Author.Rules.{rules}
use mathlib.Core.List.{[], ◌∷◌, ◌++◌}
use native.Mathlib.Numerals.{add-one}
use native.Mathlib.Nat.{zero-add}
use lib.ListN.{take}
use lib.Seq.{take-suc-set}
use Rattle.recordings.specs.Numbers.{row}
use Rattle.recordings.specs.Records.{post_in}
use Rattle.recordings.proofs.NumberLaws.{row_more}
use Rattle.replays.specs.Replay.{post_words}
use Rattle.replays.proofs.PlayLaws.{words_more}
use Rattle.replays.proofs.inner.calls.post_words.Goals as goal

pub loop-j-init : goal.loop-j-init
unfolding row post_words
loop-j-init c = (search rules, search rules, refl)

pub loop-j-preserved : goal.loop-j-preserved
loop-j-preserved c =
    let to = c.loop-j.to in
    let j = c.loop-j.j in
    let f = post_in c.args.r.now in
    let v = c.args.g * 4294967296 + c.post.result in
    let one : take (suc j) (set to j v) ≡ take j to ++ (v ∷ []) = take-suc-set to j v (omega arith) in
    let last : take j to ++ (v ∷ []) ≡ post_words c.args.g (row f 0 (j + 1)) =
    rw (c.loop-j.invariant.2, c.post.ensures.0, row_more f 0 j, zero-add j) (sym (words_more c.args.g (row f 0 j) (f j))) in
    (omega arith, simp length-set c.loop-j.invariant.1, rw (← add-one j) at one ∙ last)

pub returns : goal.returns
returns c =
    let e : c.loop-j.j ≡ c.args.n = omega arith in
    (rw e at c.loop-j.invariant.2, c.loop-j.invariant.1)
