use Rattle.std.proofs.Common.{◌≡◌, ℕ, ◌%◌, eqb, sym, ap, ◌∙◌, arith}
use native.Mathlib.Nat.{mod-zero}
use Rattle.queues.specs.Queues.{slots_for}
use Rattle.queues.specs.Fits.{whole_messages}
use Rattle.queues.proofs.inner.fits.whole_messages.Goals as goal

pub returns-then-slots-eq0 : goal.returns-then-slots-eq0
unfolding whole_messages
returns-then-slots-eq0 c =
    let n = c.args.n in
    let e : slots_for c.args.width ≡ 0 = omega (arith, c.slots_for-slots.ensures) in
    ap (λ (k : ℕ). eqb k 0) (sym (mod-zero n) ∙ ap (λ (s : ℕ). n % s) (sym e))

pub returns : goal.returns
unfolding whole_messages
returns c = rw c.slots_for-slots.ensures
