use Prim.Native.Nat.{ℕ}
use mathlib.Core.Path.{◌≡◌, refl, ap, ◌∙◌}
use native.Mathlib.Omega.{arith}
use lib.ListN.{length, length-set}
use lib.Seq.{paste}
use Rattle.graph_edits.proofs.RowLaws.{paste_none, paste_step, paste_all}
use Rattle.graph_edits.proofs.inner.rows.write_words.Goals as goal

pub loop-k-init : goal.loop-k-init
loop-k-init c = let a = c.args in (omega arith, (refl, paste_none a.t.now a.at a.row.now))

pub loop-k-preserved : goal.loop-k-preserved
loop-k-preserved c =
    let l = c.before.before in
    let a = l.args in (
      omega arith,
      (
        simp length-set (omega arith),
        paste_step a.t.now l.loop-k.t a.at a.row.now l.loop-k.k (omega arith) (omega arith)
            l.loop-k.invariant.1.1,
      ),
    )

pub returns : goal.returns
returns c =
    let l = c.before in
    let a = l.args in
    let e : l.loop-k.k ≡ length a.row.now = omega arith in
    l.loop-k.invariant.1.1 ∙ ap (λ (n : ℕ). paste a.t.now a.at a.row.now n) e ∙ paste_all a.t.now a.at a.row.now
