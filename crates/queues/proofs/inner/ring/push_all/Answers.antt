use Rattle.std.proofs.Common.{◌≡◌, ◌<◌, refl, add-one, arith, rules}
use Rattle.std.proofs.lemmas.List.{get_or-take, length-take}
use Rattle.laws.proofs.Copies.{one_more}
use Rattle.grammar.specs.Evaluation.{blank}
use Rattle.queues.specs.Queues.{slots_for, pushed_below}
use Rattle.queues.proofs.QueueLaws.{push_counted}
use Rattle.queues.proofs.MessageLaws.{slots_few}
use Rattle.queues.proofs.inner.ring.push_all.Goals as goal

pub shared_ref_as_front-slot-items : goal.shared_ref_as_front-slot-items
shared_ref_as_front-slot-items c = omega (arith, c.slots_for.ensures, slots_few c.args.message.count c.requires.1)

pub loop-slot-init : goal.loop-slot-init
unfolding pushed_below
loop-slot-init c = (search rules, refl, λ k h. absurd (omega arith))

pub push-requires : goal.push-requires
push-requires c = search rules

pub loop-slot-preserved : goal.loop-slot-preserved
unfolding pushed_below
loop-slot-preserved c =
    let p = c.push in
    let l = c.loop-slot in
    let i = l.slot-index in
    let within : i < c.slots_for.result = omega (arith, simp length-take at c.loop-slot-test.true) in
    let item = get_or-take c.slots_for.result c.args.message.values i blank within in (
      rw p.ensures.0 (push_counted l.q _ l.invariant.0),
      rw add-one (cc (p.ensures.0, item)),
      one_more _ i l.invariant.2 (rw item at p.ensures.1),
    )

pub returns : goal.returns
returns c =
    let l = c.loop-slot in
    let e : l.slot-index ≡ slots_for c.args.message.count = omega (arith, c.slots_for.ensures, simp length-take at c.loop-slot-test.false) in
    (rw e at l.invariant.1, rw e at l.invariant.2)
