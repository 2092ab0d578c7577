use native.Mathlib.Omega.{arith}
use native.Mathlib.Nat.{mul-div-le}
use mathlib.Core.Path.{refl}
use Prim.Native.Nat.{◌+◌, ◌-◌}
use Rattle.system_tables.proofs.inner.ceiling.rounded_up.Goals as goal

pub returns : goal.returns
returns c =
    let n = c.args.n in
    let d = c.args.d in
    (refl, omega (arith, mul-div-le (n + (d - 1)) d))
