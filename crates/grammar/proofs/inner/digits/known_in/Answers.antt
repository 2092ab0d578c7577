use Prim.Native.Nat.{ℕ, ◌/◌}
use mathlib.Core.Path.{refl, sym, ap, ◌∙◌}
use native.Mathlib.Omega.{arith}
use lib.Dec.{lit<, eqb}
use lib.ListN.{get_or}
use Rattle.laws.proofs.Tests.{held, failed}
use Rattle.grammar.specs.Bits.{from_bits}
use Rattle.grammar.specs.Items.{item, none, constant}
use Rattle.grammar.specs.Run.{push}
use Rattle.grammar.specs.Typing.{kinded_at}
use Rattle.grammar.specs.declared.values.Val.TheVariants.{Boolean, Integer}
use Rattle.grammar.specs.declared.items.Item.TheVariants.{Variable, Draw}
use Rattle.grammar.proofs.WalkLaws.{first, drawn, operation, no_operation, too_many_wait, one_more, no_more, answered}
use Rattle.grammar.proofs.WalkLaws.{not_answered}
use Rattle.grammar.proofs.WalkLaws.{variable_item, number_item_lem, truth_item_lem, draw_item, no_item, kind_there, kind_not_there}
use Rattle.grammar.proofs.inner.digits.known_in.Goals as goal

pub loop-at-init : goal.loop-at-init
loop-at-init c = first _ _ _ _

pub returns-then-waiting-eq0 : goal.returns-then-waiting-eq0
returns-then-waiting-eq0 c =
    let o = c.before in
    let t = o.before in
    let l = t.before.before.before in
    let s = l.before.before in
    no_operation s.args.words.now s.args.from s.args.n _ s.requires.1 s.requires.0 l.loop-at.invariant (omega arith) t.if-w-lt-DRAW.true _
    o.operated-waiting.ensures c.if-waiting-eq0.true

pub loop-at-preserved-then-w-lt-DRAW : goal.loop-at-preserved-then-w-lt-DRAW
loop-at-preserved-then-w-lt-DRAW c =
    let o = c.before in
    let t = o.before in
    let l = t.before.before.before in
    let s = l.before.before in
    operation s.args.words.now s.args.from s.args.n _ s.requires.1 s.requires.0 l.loop-at.invariant (omega arith) t.if-w-lt-DRAW.true _
    o.operated-waiting.ensures c.if-waiting-eq0.false

pub returns-then-waiting-ge-FULL : goal.returns-then-waiting-ge-FULL
returns-then-waiting-ge-FULL c =
    let e = c.before in
    let l = e.before.before.before in
    let s = l.before.before in
    too_many_wait s.args.words.now s.args.from s.args.n _ s.requires.1 s.requires.0 l.loop-at.invariant (omega arith) e.if-w-lt-DRAW.false
    c.if-waiting-ge-FULL.true

pub returns-then-count-v : goal.returns-then-count-v
returns-then-count-v c =
    let v = c.before in
    let f = v.before in
    let e = f.before in
    let l = e.before.before.before in
    let s = l.before.before in
    no_more s.args.words.now s.args.from s.args.n _ s.requires.1 s.requires.0 l.loop-at.invariant (omega arith) e.if-w-lt-DRAW.false
    (item (Variable ((get_or s.args.words.now l.loop-at.at 0) / 256))) (variable_item _ v.if-w-eq-VARIABLE.true)
    (ap (λ (k : ℕ). push (kinded_at k))
    (kind_not_there s.args.words.now s.args.kinds s.args.count ((get_or s.args.words.now l.loop-at.at 0) / 256)
    c.if-count-v.true))

pub overflow_add-waiting-then-w-eq-VARIABLE : goal.overflow_add-waiting-then-w-eq-VARIABLE
overflow_add-waiting-then-w-eq-VARIABLE c =
    let b = c.before in
    let v = b.before in
    let f = v.before in
    let e = f.before in
    let l = e.before.before.before in
    let s = l.before.before in
    omega (arith, f.if-waiting-ge-FULL.false, s.requires.3 ((get_or s.args.words.now l.loop-at.at 0) / 256) b.if-count-v.false)

pub overflow_add-waiting-then-w-eq-VARIABLE-2 : goal.overflow_add-waiting-then-w-eq-VARIABLE-2
overflow_add-waiting-then-w-eq-VARIABLE-2 c =
    let b = c.before in
    let v = b.before in
    let f = v.before in
    let e = f.before in
    let l = e.before.before.before in
    let s = l.before.before in
    omega (arith, f.if-waiting-ge-FULL.false, s.requires.3 ((get_or s.args.words.now l.loop-at.at 0) / 256) b.if-count-v.false)

pub loop-at-preserved-then-w-eq-VARIABLE : goal.loop-at-preserved-then-w-eq-VARIABLE
loop-at-preserved-then-w-eq-VARIABLE c =
    let b = c.before in
    let v = b.before in
    let f = v.before in
    let e = f.before in
    let l = e.before.before.before in
    let s = l.before.before in
    one_more s.args.words.now s.args.from s.args.n _ s.requires.1 s.requires.0 l.loop-at.invariant (omega arith) e.if-w-lt-DRAW.false
    f.if-waiting-ge-FULL.false (item (Variable ((get_or s.args.words.now l.loop-at.at 0) / 256))) _ _ _ (variable_item _ v.if-w-eq-VARIABLE.true)
    (s.requires.3 ((get_or s.args.words.now l.loop-at.at 0) / 256) b.if-count-v.false)
    (ap (λ (k : ℕ). push (kinded_at k))
    (kind_there s.args.words.now s.args.kinds s.args.count ((get_or s.args.words.now l.loop-at.at 0) / 256) s.requires.2
    b.if-count-v.false)) refl (omega arith)

pub loop-at-preserved-then-number : goal.loop-at-preserved-then-number
loop-at-preserved-then-number c =
    let n = c.before in
    let v = n.before in
    let f = v.before in
    let e = f.before in
    let l = e.before.before.before in
    let s = l.before.before in
    one_more s.args.words.now s.args.from s.args.n _ s.requires.1 s.requires.0 l.loop-at.invariant (omega arith) e.if-w-lt-DRAW.false
    f.if-waiting-ge-FULL.false (constant (Integer (from_bits ((get_or s.args.words.now l.loop-at.at 0) / 256)))) 1 _ _
    (number_item_lem _ (sym n.number.ensures ∙ c.if-number.true)) (lit< tt) refl (omega arith) (omega arith)

pub overflow_add-draws : goal.overflow_add-draws
overflow_add-draws c =
    let g = c.before in
    let n = g.before in
    let v = n.before in
    let f = v.before in
    let e = f.before in
    let l = e.before.before.before in
    let s = l.before.before in
    omega (arith, s.requires.0, drawn s.args.words.now s.args.from s.args.n _ s.requires.1 s.requires.0 l.loop-at.invariant)

pub loop-at-preserved-then-w-eq-DRAW : goal.loop-at-preserved-then-w-eq-DRAW
loop-at-preserved-then-w-eq-DRAW c =
    let g = c.before in
    let n = g.before in
    let v = n.before in
    let f = v.before in
    let e = f.before in
    let l = e.before.before.before in
    let s = l.before.before in
    one_more s.args.words.now s.args.from s.args.n _ s.requires.1 s.requires.0 l.loop-at.invariant (omega arith) e.if-w-lt-DRAW.false
    f.if-waiting-ge-FULL.false (item Draw) 0 _ _ (draw_item _ c.if-w-eq-DRAW.true) (lit< tt) refl (omega arith) (omega arith)

pub returns-then-not-truth : goal.returns-then-not-truth
returns-then-not-truth c =
    let a = c.before in
    let d = a.before in
    let g = d.before in
    let n = g.before in
    let v = n.before in
    let f = v.before in
    let e = f.before in
    let l = e.before.before.before in
    let s = l.before.before in
    no_more s.args.words.now s.args.from s.args.n _ s.requires.1 s.requires.0 l.loop-at.invariant (omega arith) e.if-w-lt-DRAW.false none
    (no_item _ (omega (arith, e.if-w-lt-DRAW.false, d.if-w-eq-DRAW.false)) v.if-w-eq-VARIABLE.false (sym n.number.ensures ∙ g.if-number.false)
    (failed a.truth.ensures c.if-not-truth.true)) refl

pub loop-at-preserved : goal.loop-at-preserved
loop-at-preserved c =
    let a = c.before in
    let d = a.before in
    let g = d.before in
    let n = g.before in
    let v = n.before in
    let f = v.before in
    let e = f.before in
    let l = e.before.before.before in
    let s = l.before.before in
    one_more s.args.words.now s.args.from s.args.n _ s.requires.1 s.requires.0 l.loop-at.invariant (omega arith) e.if-w-lt-DRAW.false
    f.if-waiting-ge-FULL.false (constant (Boolean (eqb ((get_or s.args.words.now l.loop-at.at 0) / 256) 1))) 0 _ _
    (truth_item_lem _ (held a.truth.ensures c.if-not-truth.false)) (lit< tt) refl (omega arith) (omega arith)

pub returns-then-waiting-gt2 : goal.returns-then-waiting-gt2
returns-then-waiting-gt2 c =
    let l = c.before.before in
    let s = l.before.before in
    not_answered s.args.words.now s.args.from s.args.n _ s.requires.1 s.requires.0 l.loop-at.invariant (omega arith) c.if-waiting-gt2.true

pub overflow_add-result : goal.overflow_add-result
overflow_add-result c =
    let l = c.before.before in
    let s = l.before.before in
    omega (arith, s.requires.0, drawn s.args.words.now s.args.from s.args.n _ s.requires.1 s.requires.0 l.loop-at.invariant)

pub returns : goal.returns
returns c =
    let l = c.before.before in
    let s = l.before.before in
    answered s.args.words.now s.args.from s.args.n _ s.requires.1 s.requires.0 l.loop-at.invariant (omega arith) c.if-waiting-gt2.false
