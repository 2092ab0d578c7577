use Prim.Native.Nat.{ℕ, ◌+◌, ◌-◌}
use mathlib.Core.Path.{◌≡◌, ap, ◌∙◌}
use native.Mathlib.Omega.{arith}
use Rattle.queues.specs.Layout.{queue_words}
use Rattle.queues.specs.Queues.{slots_for, dropped}
use Rattle.system_tables.specs.Words.{width_of}
use mathlib.Core.List.{List}
use Rattle.channel_system.proofs.TransferLaws.{lent_is, put_back}
use Rattle.channel_system.proofs.inner.transfers.take_from.Goals as goal

pub drop_front-requires : goal.drop_front-requires
drop_front-requires c =
    let e : c.queue_start-at.result + queue_words - c.queue_start-at.result ≡ queue_words = omega arith in
    let n : c.slots_for.result ≡ slots_for (width_of c.args.t.now c.args.q) = c.slots_for.ensures
    ∙ ap slots_for c.width_of-width.ensures in
    rw (lent_is c.args.s.now c.args.q _ _ c.queue_start-at.ensures e, n) (c.requires.3, c.requires.4)

pub returns : goal.returns
returns c =
    let e : c.queue_start-at.result + queue_words - c.queue_start-at.result ≡ queue_words = omega arith in
    let n : c.slots_for.result ≡ slots_for (width_of c.args.t.now c.args.q) = c.slots_for.ensures
    ∙ ap slots_for c.width_of-width.ensures in
    put_back c.args.s.now c.args.q _ _ c.queue_start-at.ensures e
    (λ (x : List ℕ). dropped x (slots_for (width_of c.args.t.now c.args.q))) _
    (c.drop_front.ensures ∙ ap (dropped _) n)
