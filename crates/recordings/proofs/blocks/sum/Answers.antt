use Prim.Native.Nat.{ℕ, ◌+◌, ◌*◌, ◌≤◌, ◌<◌}
use mathlib.Core.Path.{◌≡◌, sym}
use native.Mathlib.Omega.{arith}
use lib.ListN.{get_or}
use borrow.Author.Rules.{rules}
use mathlib.Core.List.{List}
use native.Mathlib.Nat.{mul-le-mul, le_trans}
use Rattle.laws.proofs.BelowLaws.{sum_none, sum_more}
use Rattle.recordings.specs.Blocks.{weighed, sum_of}
use Rattle.recordings.proofs.blocks.sum.Goals as goal

-- a term of the sum is below this
term : (b : List ℕ) (i : ℕ) → get_or b i 0 ≤ 255 → i < 508 → get_or b i 0 * (i + 1) ≤ 129540
term b i h l = le_trans (mul-le-mul {m₂ = 508} h (omega arith)) (omega arith)

pub loop-i-init : goal.loop-i-init
loop-i-init c = (search rules, sym (sum_none _), search rules)

pub overflow_mul-total : goal.overflow_mul-total
overflow_mul-total c =
    let i = c.loop-i.i in
    let m = term c.args.b.now i (omega (arith, c.shared_slice_known-1.given i)) (omega arith) in
    omega (arith, m)

pub overflow_add-total-in-loop-i : goal.overflow_add-total-in-loop-i
overflow_add-total-in-loop-i c =
    let i = c.loop-i.i in
    let m = term c.args.b.now i (omega (arith, c.shared_slice_known-1.given i)) (omega arith) in
    omega (arith, m)

pub loop-i-preserved : goal.loop-i-preserved
loop-i-preserved c =
    let i = c.loop-i.i in
    let b = c.args.b.now in
    let m = term b i (omega (arith, c.shared_slice_known-1.given i)) (omega arith) in
    (search rules, rw c.loop-i.invariant.1 (sym (sum_more (weighed b) i)), omega (arith, m))

pub returns : goal.returns
unfolding sum_of
returns c =
    let e : c.loop-i.i ≡ 508 = omega arith in
    rw e at c.loop-i.invariant.1
