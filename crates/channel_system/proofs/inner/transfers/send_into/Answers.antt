use Prim.Native.Nat.{ℕ, ◌+◌, ◌-◌}
use mathlib.Core.Path.{◌≡◌, sym, ap, ◌∙◌}
use native.Mathlib.Omega.{arith}
use mathlib.Core.Bool.{true, false}
use Rattle.laws.proofs.Tests.{held, failed}
use Rattle.queues.specs.Layout.{queue_words}
use Rattle.queues.specs.Queues.{pushed_all}
use Rattle.system_tables.specs.Words.{capacity_of}
use Rattle.channel_system.specs.Steps.{stores, sent_into}
use mathlib.Core.List.{List}
use Rattle.channel_system.proofs.TransferLaws.{lent_is, put_back}
use Rattle.channel_system.proofs.inner.transfers.send_into.Goals as goal

pub capacity_of-capacity-requires : goal.capacity_of-capacity-requires
capacity_of-capacity-requires c =
    (c.requires.0.words, omega (arith, c.requires.1, c.requires.0.channels), (c.requires.0.channel c.args.q c.requires.1).bound)

pub returns-then-not-stores_in : goal.returns-then-not-stores_in
unfolding sent_into
returns-then-not-stores_in c =
    let e : stores (capacity_of c.args.t.now c.args.q) ≡ false =
    ap stores (sym c.capacity_of-capacity.ensures) ∙ failed c.stores_in.ensures c.if-not-stores_in.true in
    rw e

pub push_all-requires : goal.push_all-requires
push_all-requires c =
    let e : c.queue_start-at.result + queue_words - c.queue_start-at.result ≡ queue_words = omega arith in
    (rw (lent_is c.args.s.now c.args.q _ _ c.queue_start-at.ensures e) c.requires.3, c.requires.4)

pub returns : goal.returns
unfolding sent_into
returns c =
    let e : c.queue_start-at.result + queue_words - c.queue_start-at.result ≡ queue_words = omega arith in
    let some : stores (capacity_of c.args.t.now c.args.q) ≡ true =
    ap stores (sym c.capacity_of-capacity.ensures) ∙ held c.stores_in.ensures c.if-not-stores_in.false in
    rw some
    (put_back c.args.s.now c.args.q _ _ c.queue_start-at.ensures e (λ (x : List ℕ). pushed_all x c.args.message) _
    c.push_all.ensures.0)
