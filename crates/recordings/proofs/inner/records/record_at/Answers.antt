use Prim.Native.Nat.{ℕ, ◌+◌, ◌-◌, ◌*◌}
use mathlib.Core.Path.{◌≡◌, ap}
use native.Mathlib.Omega.{arith}
use lib.ListN.{take, drop, length-take, length-drop}
use Rattle.recordings.proofs.inner.records.record_at.Goals as goal

pub returns : goal.returns
returns c =
    let i = c.args.i in
    let b = c.args.b.now in
    let w : 28 + 32 * i + 32 - (28 + 32 * i) ≡ 32 = omega arith in
    (ap (λ (n : ℕ). take n (drop (28 + 32 * i) b)) w, rw w (simp (length-take, length-drop) (omega arith)))
