use Prim.Native.Nat.{◌+◌, ◌-◌, ◌≤◌, ◌<◌}
use mathlib.Core.Path.{◌≡◌}
use Prim.Native.Nat.{◌^◌}
use Rattle.recordings.specs.Numbers.{byte, number_at}
use Rattle.recordings.proofs.inner.numbers.number.Given as goal

abbrev pub invariant-loop-k : goal.invariant-loop-k
invariant-loop-k l = (l.k ≤ l.n) × (l.x ≡ number_at l.bytes (l.at + l.k) (l.n - l.k)) × (l.x < byte ^ (l.n - l.k))
