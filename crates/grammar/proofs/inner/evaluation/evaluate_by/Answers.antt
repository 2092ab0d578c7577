use Rattle.grammar.proofs.OperationLaws.{no_variables}
use Rattle.grammar.proofs.EvaluationLaws.{evaluated}
use Rattle.grammar.proofs.DrawLaws.{left_done}
use Rattle.grammar.proofs.TurnLaws.{small, some, none_taken, drawn, looked_up, constant, halved, undrawn, stuck_here}
use Rattle.grammar.proofs.TurnLaws.{gives_value, too_few, too_deep_lem, goes_on}
use mathlib.Core.Bool.{true, false}
use Rattle.grammar.specs.Inner.{operates_of}
use Prim.Native.Nat.{◌-◌, ◌/◌}
use mathlib.Core.Path.{◌≡◌, refl, sym, ◌∙◌}
use native.Mathlib.Omega.{arith}
use lib.ListN.{get_or}
use borrow.Author.Rules.{rules}
use Rattle.grammar.proofs.inner.evaluation.evaluate_by.Goals as goal
use Rattle.grammar.proofs.inner.evaluation.evaluate_by.Goals.{Else-operates, Then-operates}

pub loop-w-init : goal.loop-w-init
loop-w-init g c = record { within = search rules; shallow = search rules; slots = refl; same_run = refl; same_depth = refl; same_left = refl }

-- what the test of the word says
operation : (g : _) (c : Then-operates g)
    → operates_of (get_or c.args.items.now
    c.loop-w.w-index 0) ≡ true
operation g c = sym c.operates.ensures ∙ c.if-operates.true

other : (g : _) (c : Else-operates g)
    → operates_of (get_or c.args.items.now
    c.loop-w.w-index 0) ≡ false
other g c = sym c.operates.ensures ∙ c.if-operates.false

pub returns-then-depth-takes : goal.returns-then-depth-takes
returns-then-depth-takes g c =
    let l = c.before.before.before.before.before.before.before in
    let s = l.before.before in
    let items = s.args.items.now in
    let vars = g.V.Variables.slots s.args.vars.now in
    let t = c.before.before in
    c.no_value.ensures
    ∙ evaluated vars s.args.word items
    (too_few l.loop-w.invariant (omega arith) (omega (arith, t.takes-takes.ensures, c.if-depth-takes.true))) refl

pub bounds-stack-base-then-operates : goal.bounds-stack-base-then-operates
bounds-stack-base-then-operates g c =
    let l = c.before.before.before.before.before.before in
    let s = l.before.before in
    let items = s.args.items.now in
    let w = get_or items l.loop-w.w-index 0 in
    omega (arith, c.takes-takes.ensures, some w (operation g (goal.at.bounds-stack-base-then-operates g c).Then-operates), l.loop-w.invariant.shallow)

pub operation-v-requires : goal.operation-v-requires
operation-v-requires g c = small _ (operation g (goal.at.operation-v-requires g c).Then-operates)

pub loop-w-preserved-then-operates : goal.loop-w-preserved-then-operates
loop-w-preserved-then-operates g c =
    let l = c.before.before.before.before.before.before.before in
    let s = l.before.before in
    let items = s.args.items.now in
    let vars = g.V.Variables.slots s.args.vars.now in
    let w = get_or items l.loop-w.w-index 0 in
    let t = c.before.before in
    let e = operation g (goal.at.loop-w-preserved-then-operates g c).Then-operates in
    goes_on l.loop-w.invariant (omega arith) (l.loop-w.depth - t.takes-takes.result) t.takes-takes.result c.operation-v.result l.loop-w.left
    (omega (arith, c.if-depth-takes.false)) t.takes-takes.ensures
    (omega (arith, t.takes-takes.ensures, some w e, l.loop-w.invariant.shallow)) (undrawn l.loop-w.left w (λ z. omega (arith, small w e)))
    (c.operation-v.ensures ∙ no_variables vars l.loop-w.left _ _ w (small w e))

pub returns-then-depth-ge16 : goal.returns-then-depth-ge16
returns-then-depth-ge16 g c =
    let l = c.before.before.before.before.before.before in
    let s = l.before.before in
    let items = s.args.items.now in
    let vars = g.V.Variables.slots s.args.vars.now in
    let w = get_or items l.loop-w.w-index 0 in
    c.no_value-then-depth-ge16.ensures
    ∙ evaluated vars s.args.word items
    (too_deep_lem l.loop-w.invariant (omega arith) (none_taken w (other g (goal.at.returns-then-depth-ge16 g c).Else-operates)) c.if-depth-ge16.true) refl

pub loop-w-preserved-then-w-eq-VARIABLE : goal.loop-w-preserved-then-w-eq-VARIABLE
loop-w-preserved-then-w-eq-VARIABLE g c =
    let l = c.before.before.before.before.before.before.before.before in
    let s = l.before.before in
    let items = s.args.items.now in
    let vars = g.V.Variables.slots s.args.vars.now in
    let w = get_or items l.loop-w.w-index 0 in
    let i = c.before.before in
    goes_on l.loop-w.invariant (omega arith) l.loop-w.depth 0 c.operand.result l.loop-w.left (omega arith)
    (sym (none_taken w (other g (goal.at.loop-w-preserved-then-w-eq-VARIABLE g c).Else-operates))) i.if-depth-ge16.false (undrawn l.loop-w.left w (λ z. omega (arith, i.if-w-eq-VARIABLE.true)))
    (c.operand.ensures
    ∙ looked_up vars l.loop-w.left _ _ w i.if-w-eq-VARIABLE.true)

pub loop-w-preserved-then-w-eq-DRAW : goal.loop-w-preserved-then-w-eq-DRAW
loop-w-preserved-then-w-eq-DRAW g c =
    let l = c.before.before.before.before.before.before.before.before in
    let s = l.before.before in
    let items = s.args.items.now in
    let vars = g.V.Variables.slots s.args.vars.now in
    let w = get_or items l.loop-w.w-index 0 in
    let i = c.before.before.before in
    let e = c.if-w-eq-DRAW.true in
    goes_on l.loop-w.invariant (omega arith) l.loop-w.depth 0 c.boolean.result (l.loop-w.left / 2) (omega arith)
    (sym (none_taken w (other g (goal.at.loop-w-preserved-then-w-eq-DRAW g c).Else-operates))) i.if-depth-ge16.false (halved l.loop-w.left w e)
    (c.boolean.ensures ∙ drawn vars l.loop-w.left _ _ w e)

pub loop-w-preserved : goal.loop-w-preserved
loop-w-preserved g c =
    let l = c.before.before.before.before.before.before.before.before in
    let s = l.before.before in
    let items = s.args.items.now in
    let vars = g.V.Variables.slots s.args.vars.now in
    let w = get_or items l.loop-w.w-index 0 in
    let i = c.before.before.before in
    let e = other g (goal.at.loop-w-preserved g c).Else-operates in
    goes_on l.loop-w.invariant (omega arith) l.loop-w.depth 0 c.constant.result l.loop-w.left (omega arith) (sym (none_taken w e))
    i.if-depth-ge16.false (undrawn l.loop-w.left w c.if-w-eq-DRAW.false)
    (c.constant.ensures _ ∙ constant vars l.loop-w.left _ _ w e c.if-w-eq-DRAW.false)

pub returns-then-depth-ne1 : goal.returns-then-depth-ne1
returns-then-depth-ne1 g c =
    let l = c.before.before.before in
    let s = l.before.before in
    let items = s.args.items.now in
    let vars = g.V.Variables.slots s.args.vars.now in
    c.no_value-then-depth-ne1.ensures ∙ evaluated vars s.args.word items (stuck_here l.loop-w.invariant (omega arith) c.if-depth-ne1.true) refl

pub returns : goal.returns
returns g c =
    let l = c.before.before.before in
    let s = l.before.before in
    let items = s.args.items.now in
    let vars = g.V.Variables.slots s.args.vars.now in
    evaluated vars s.args.word items (c.held.ensures ∙ gives_value l.loop-w.invariant (omega arith) c.if-depth-ne1.false)
    (sym (left_done items l.loop-w.w-index l.loop-w.left (omega arith)) ∙ l.loop-w.invariant.same_left)
