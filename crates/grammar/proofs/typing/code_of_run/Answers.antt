use mathlib.Core.Path.{◌∙◌}
use native.Mathlib.Omega.{arith}
use Rattle.grammar.proofs.DrawLaws.{draws_few}
use Rattle.grammar.proofs.PassLaws.{start, stuck_here, gives_kind, last, room, all_drawn, operation, no_operation, constant}
use Rattle.grammar.proofs.PassLaws.{no_constant, drawn}
use Rattle.grammar.proofs.typing.code_of_run.Goals as goal

pub loop-w-init : goal.loop-w-init
loop-w-init c = start _ _

pub operated-next-requires : goal.operated-next-requires
operated-next-requires c = (c.if-w-lt-DRAW.true, c.loop-w.invariant.small)

pub returns-then-depth-eq0 : goal.returns-then-depth-eq0
returns-then-depth-eq0 c =
    no_operation c.loop-w.invariant (omega arith) c.if-w-lt-DRAW.true _
    c.operated-next.ensures c.if-depth-eq0.true

pub loop-w-preserved-then-w-lt-DRAW : goal.loop-w-preserved-then-w-lt-DRAW
loop-w-preserved-then-w-lt-DRAW c =
    operation c.loop-w.invariant (omega arith) c.if-w-lt-DRAW.true _
    c.operated-next.ensures (omega arith)

pub overflow_mul-integers : goal.overflow_mul-integers
overflow_mul-integers c =
    let l = c.before.before.before.before.before in
    omega (arith, l.requires, room l.loop-w.invariant (omega (arith, l.requires)))

pub overflow_add-integers : goal.overflow_add-integers
overflow_add-integers c =
    let l = c.before.before.before.before.before in
    omega (arith, l.requires, room l.loop-w.invariant (omega (arith, l.requires)))

pub overflow_add-depth : goal.overflow_add-depth
overflow_add-depth c = omega (arith, c.loop-w.invariant.shallow)

pub loop-w-preserved-then-kind-lt-ILL : goal.loop-w-preserved-then-kind-lt-ILL
loop-w-preserved-then-kind-lt-ILL c =
    constant c.loop-w.invariant (omega arith) _ c.constant_kind-kind.ensures
    c.if-w-lt-DRAW.false c.if-kind-lt-ILL.true _ c.max-most.ensures

pub returns-then-w-ne-DRAW : goal.returns-then-w-ne-DRAW
returns-then-w-ne-DRAW c =
    no_constant c.loop-w.invariant (omega arith) _ c.constant_kind-kind.ensures
    (omega (arith, c.if-w-lt-DRAW.false)) c.if-kind-lt-ILL.false

pub overflow_mul-integers-in-loop-w : goal.overflow_mul-integers-in-loop-w
overflow_mul-integers-in-loop-w c =
    let l = c.before.before.before.before.before.before in
    omega (arith, l.requires, room l.loop-w.invariant (omega (arith, l.requires)))

pub overflow_add-depth-in-loop-w : goal.overflow_add-depth-in-loop-w
overflow_add-depth-in-loop-w c = omega (arith, c.loop-w.invariant.shallow)

pub overflow_add-draws : goal.overflow_add-draws
overflow_add-draws c =
    let l = c.before.before.before.before.before.before.before in
    omega (arith, l.requires, l.loop-w.invariant.same_draws, draws_few l.args.items.now)

pub loop-w-preserved : goal.loop-w-preserved
loop-w-preserved c =
    drawn c.loop-w.invariant (omega arith) c.if-w-ne-DRAW.false _
    c.max-most-in-loop-w.ensures

pub returns-then-depth-ne1 : goal.returns-then-depth-ne1
returns-then-depth-ne1 c = stuck_here c.loop-w.invariant (omega arith) c.if-depth-ne1.true

pub coded-requires : goal.coded-requires
coded-requires c =
    let l = c.before.before in
    let s = l.before.before.before in
    (last l.loop-w.invariant c.if-depth-ne1.false, omega (arith, s.requires, all_drawn l.loop-w.invariant (omega arith), draws_few s.args.items.now))

pub returns : goal.returns
returns c =
    let p = c.loop-w.invariant in
    c.coded.ensures _ (all_drawn p (omega arith)) ∙ gives_kind p (omega arith) c.if-depth-ne1.false
