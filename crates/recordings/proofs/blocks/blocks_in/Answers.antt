use native.Mathlib.Omega.{arith}
use Rattle.recordings.specs.Blocks.{blocks_in}
use Rattle.recordings.proofs.blocks.blocks_in.Goals as goal

pub returns-then-n-eq0 : goal.returns-then-n-eq0
unfolding blocks_in
returns-then-n-eq0 c = omega arith

pub returns : goal.returns
unfolding blocks_in
returns c = omega arith
