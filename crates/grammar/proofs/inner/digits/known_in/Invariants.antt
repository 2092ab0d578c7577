use Prim.Native.Nat.{◌+◌, ◌-◌}
use lib.ListN.{take, drop}
use Rattle.grammar.proofs.WalkLaws.{Turn}
use Rattle.grammar.proofs.inner.digits.known_in.Given as goal

abbrev pub invariant-loop-at : goal.invariant-loop-at
invariant-loop-at l =
    Turn l.words l.from l.n (take l.count (drop l.kinds l.words)) l.waiting l.draws l.at

abbrev pub decreases-loop-at : goal.decreases-loop-at
decreases-loop-at l = l.from + l.n - l.at
