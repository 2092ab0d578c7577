use Rattle.std.proofs.Common.{take}
use Rattle.text.specs.Writing.{Put}
use Rattle.text.proofs.output.put_all.Given as goal

abbrev pub invariant-loop-byte : goal.invariant-loop-byte
invariant-loop-byte l = Put l.initial.out l.at (take l.byte-index l.bytes) l.out l.here
