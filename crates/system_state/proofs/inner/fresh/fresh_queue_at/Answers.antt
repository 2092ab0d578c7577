use Prim.Native.Nat.{ℕ, ◌+◌, ◌-◌}
use mathlib.Core.Path.{◌≡◌, ap, ◌∙◌}
use mathlib.Core.List.{List, ◌++◌}
use native.Mathlib.Omega.{arith}
use lib.ListN.{take, drop}
use Rattle.queues.specs.Layout.{queue_words}
use Rattle.queues.specs.Queues.{emptied}
use Rattle.system_state.proofs.inner.fresh.fresh_queue_at.Goals as goal

-- the state with m words from a on emptied
abbrev emptied_at : List ℕ → ℕ → ℕ → List ℕ
emptied_at s m a = take a s ++ (emptied (take m (drop a s)) ++ drop m (drop a s))

pub returns : goal.returns
returns c =
    let s = c.args.s.now in
    let a = c.queue_start-a.result in
    let e : a + queue_words - a ≡ queue_words = omega arith in
    ap (λ (x : List ℕ). take a s ++ (x ++ drop (a + queue_words - a) (drop a s))) c.empty.ensures
    ∙ ap (λ (m : ℕ). emptied_at s m a) e
    ∙ ap (emptied_at s queue_words) c.queue_start-a.ensures
