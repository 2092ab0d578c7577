use Prim.Native.Nat.{ℕ, ◌<◌}
use mathlib.Core.Path.{refl}
use native.Mathlib.Omega.{arith}
use Rattle.graph_tables.specs.Sizes.{word32}
use lib.ListN.{get_or, length-set}
use Rattle.laws.proofs.Copies.{filled_none, filled_more, filled_all, one_more}
use Rattle.program_graph.proofs.StoredLaws.{small_all}
use borrow.Author.Rules.{rules}
use Rattle.program_graph.proofs.inner.words.widen.Goals as goal

pub loop-i-init : goal.loop-i-init
loop-i-init c = (search rules, search rules, filled_none 0 _ _, λ j l. absurd (omega arith))

pub loop-i-preserved : goal.loop-i-preserved
loop-i-preserved c = (
  omega arith,
  simp length-set c.loop-i.invariant.1,
  filled_more 0 _ _ _ _ c.loop-i.invariant.2 (omega arith) refl,
  one_more (λ (j : ℕ). get_or c.args.from.now j 0 < word32) c.loop-i.i c.loop-i.invariant.3
      (omega (arith, c.shared_slice_known-1.given c.loop-i.i)),
)

pub returns : goal.returns
returns c =
    let inv = c.loop-i.invariant in (
      filled_all 0 _ _ c.loop-i.i inv.2 inv.1 (omega arith),
      small_all c.args.from.now
          (λ i l. inv.3 i (omega arith)),
    )
