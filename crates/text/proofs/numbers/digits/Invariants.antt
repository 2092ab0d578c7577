use Rattle.std.proofs.Common.{◌≡◌, ◌≤◌, drop}
use Rattle.text.specs.Numbers.{up_to}
use Rattle.text.proofs.numbers.digits.Given as goal

abbrev pub invariant-loop-byte : goal.invariant-loop-byte
invariant-loop-byte l = (l.n ≤ l.largest) × (up_to l.largest l.n (drop l.byte-index l.token) ≡ up_to l.largest 0 l.token)
