use Prim.Native.Nat.{ℕ, ◌+◌, ◌-◌}
use mathlib.Core.Path.{◌≡◌, ap, ◌∙◌}
use native.Mathlib.Omega.{arith}
use lib.ListN.{take, drop}
use Rattle.system_tables.specs.Layout.{channel_kind_cell}
use Rattle.system_tables.proofs.inner.words.kinds_at.Goals as goal

pub returns : goal.returns
returns c =
    let t = c.args.t.now in
    let q = c.args.q in
    let n = c.width_of.result in
    let e : channel_kind_cell q 0 + n - channel_kind_cell q 0 ≡ n = omega arith in
    ap (λ (k : ℕ). take k (drop (channel_kind_cell q 0) t)) (e ∙ c.width_of.ensures)
