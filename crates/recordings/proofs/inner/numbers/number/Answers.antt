use Prim.Native.Nat.{◌+◌, ◌-◌}
use mathlib.Core.Path.{◌≡◌, refl, sym, ◌∙◌}
use native.Mathlib.Omega.{arith}
use borrow.Author.Rules.{rules}
use Rattle.recordings.proofs.NumberLaws.{number_none, number_next, byte_more, seven_bytes}
use Rattle.recordings.proofs.inner.numbers.number.Goals as goal

pub loop-k-init : goal.loop-k-init
loop-k-init c =
    let n = c.args.n in
    let at = c.args.at in
    let z : n - n ≡ 0 = omega arith in
    (search rules, rw z (sym (number_none c.args.bytes.now (at + n))), rw z (omega arith))

pub overflow_mul-x : goal.overflow_mul-x
overflow_mul-x c =
    let n = c.args.n in
    omega (arith, seven_bytes (n - c.loop-k.k) c.loop-k.x c.loop-k.invariant.2 (omega arith))

pub overflow_add-x : goal.overflow_add-x
overflow_add-x c =
    let n = c.args.n in
    omega (
      arith,
      seven_bytes (n - c.loop-k.k) c.loop-k.x c.loop-k.invariant.2 (omega arith),
      c.shared_slice_known-1.given (c.args.at + (c.loop-k.k - 1)),
    )

pub loop-k-preserved : goal.loop-k-preserved
loop-k-preserved c =
    let xs = c.args.bytes.now in
    let n = c.args.n in
    let at = c.args.at in
    let k = c.loop-k.k in
    let x = c.loop-k.x in
    let more : n - (k - 1) ≡ n - k + 1 = omega arith in
    let up : at + (k - 1) + 1 ≡ at + k = omega arith in
    let here = number_next xs (at + (k - 1)) (n - k) (omega arith) in (
      search rules,
      rw more (omega (arith, c.loop-k.invariant.1, rw up at here)),
      rw more (byte_more (n - k) x _ c.loop-k.invariant.2 (omega (arith, c.shared_slice_known-1.given (at + (k - 1))))),
    )

pub returns : goal.returns
returns c =
    let at : c.args.at + c.loop-k.k ≡ c.args.at = omega arith in
    let n : c.args.n - c.loop-k.k ≡ c.args.n = omega arith in
    (c.loop-k.invariant.1 ∙ rw (at, n) refl, rw n at c.loop-k.invariant.2)
