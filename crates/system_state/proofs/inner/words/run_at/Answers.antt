use Prim.Native.Nat.{ℕ, ◌+◌, ◌-◌}
use mathlib.Core.Path.{◌≡◌, ap, ◌∙◌}
use native.Mathlib.Omega.{arith}
use lib.ListN.{take, drop}
use Rattle.graph_tables.specs.RunWords.{run_words}
use Rattle.system_state.proofs.inner.words.run_at.Goals as goal

pub returns : goal.returns
returns c =
    let s = c.args.s.now in
    let a = c.run_start-a.result in
    let e : a + run_words - a ≡ run_words = omega arith in
    ap (λ (k : ℕ). take k (drop a s)) e ∙ ap (λ (k : ℕ). take run_words (drop k s)) c.run_start-a.ensures
