use Prim.Native.Nat.{◌-◌}
use mathlib.Core.Path.{◌≡◌}
use lib.Seq.{sets}
use Rattle.recordings.specs.Numbers.{bytes_of}
use Rattle.recordings.proofs.inner.writes.put_number.Given as goal

abbrev pub invariant-loop-b : goal.invariant-loop-b
invariant-loop-b l = sets l.b-items l.b-index (bytes_of (l.n - l.b-index) l.rest) ≡ sets l.initial.b-items 0 (bytes_of l.n l.x)
