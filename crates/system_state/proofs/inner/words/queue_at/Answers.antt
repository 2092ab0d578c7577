use Prim.Native.Nat.{ℕ, ◌+◌, ◌-◌}
use mathlib.Core.Path.{◌≡◌, ap, ◌∙◌}
use native.Mathlib.Omega.{arith}
use lib.ListN.{take, drop}
use Rattle.queues.specs.Layout.{queue_words}
use Rattle.system_state.proofs.inner.words.queue_at.Goals as goal

pub returns : goal.returns
returns c =
    let s = c.args.s.now in
    let a = c.queue_start-a.result in
    let e : a + queue_words - a ≡ queue_words = omega arith in
    ap (λ (k : ℕ). take k (drop a s)) e ∙ ap (λ (k : ℕ). take queue_words (drop k s)) c.queue_start-a.ensures
