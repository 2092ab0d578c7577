use mathlib.Core.Path.{◌≡◌, refl, ap, ◌∙◌}
use native.Mathlib.Omega.{arith}
use native.Mathlib.Numerals.{add-one}
use borrow.Author.Rules.{rules}
use Rattle.system_tables.specs.Words.{channel_count}
use Rattle.system_state.specs.Fresh.{fresh_queues_below}
use Rattle.system_state.proofs.FreshLaws.{fresh_queue_words}
use Rattle.system_state.proofs.inner.fresh.fresh_queues.Goals as goal

pub loop-q-init : goal.loop-q-init
unfolding fresh_queues_below
loop-q-init c = (search rules, c.channel_count-q-end.ensures, c.requires.1, refl)

pub fresh_queue_at-requires : goal.fresh_queue_at-requires
fresh_queue_at-requires c =
    (c.loop-q.invariant.2, omega (arith, c.loop-q.invariant.1, c.requires.0.channels))

pub loop-q-preserved : goal.loop-q-preserved
unfolding fresh_queues_below
loop-q-preserved c = (
  omega arith,
  c.loop-q.invariant.1,
  rw c.fresh_queue_at.ensures
      (fresh_queue_words c.loop-q.s c.loop-q.invariant.2 c.loop-q.q (omega (arith, c.loop-q.invariant.1, c.requires.0.channels))),
  rw add-one (cc (c.loop-q.invariant.3, c.fresh_queue_at.ensures)),
)

pub returns : goal.returns
returns c =
    let e : c.loop-q.q ≡ channel_count c.args.t.now = omega (arith, c.loop-q.invariant.1) in
    c.loop-q.invariant.3 ∙ ap (fresh_queues_below c.args.s.now) e
