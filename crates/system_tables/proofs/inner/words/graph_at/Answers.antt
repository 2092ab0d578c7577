use Prim.Native.Nat.{ℕ, ◌+◌, ◌-◌}
use mathlib.Core.Path.{◌≡◌, ap, ◌∙◌}
use native.Mathlib.Omega.{arith}
use lib.ListN.{take, drop}
use Rattle.graph_tables.specs.Layout.{table_words}
use Rattle.system_tables.proofs.inner.words.graph_at.Goals as goal

pub returns : goal.returns
returns c =
    let t = c.args.t.now in
    let a = c.graph_start-a.result in
    let e : a + table_words - a ≡ table_words = omega arith in
    ap (λ (k : ℕ). take k (drop a t)) e ∙ ap (λ (k : ℕ). take table_words (drop k t)) c.graph_start-a.ensures
