use Rattle.std.specs.Prelude.{Err}
use mathlib.Core.Path.{refl}
use borrow.Author.Tests.{eq-eqb, ne_eqb, le-ltb, lt-ltb}
use Rattle.graph_tables.specs.Refusals.{refusal}
use Rattle.program_graph.specs.Running.{acted_of}
use Rattle.program_graph.specs.Inner.{DidCall}
use Rattle.program_graph.proofs.LeaveLaws.{rung_stopped, rung_passed, leaves_same}
use Rattle.program_graph.proofs.inner.steps.acted.Goals as goal

pub returns-then-action_count-a : goal.returns-then-action_count-a
unfolding acted_of
returns-then-action_count-a c =
    rung_stopped (DidCall c.args.t.now c.args.r.now (Err (refusal 1)) c.args.r.now) _ _
    (le-ltb _ _ (rw c.action_count.ensures at c.if-action_count-a.true)) (refl, leaves_same c.args.t.now c.args.r.now c.requires.1)

pub returns-then-action_kind-ne-PLAIN : goal.returns-then-action_kind-ne-PLAIN
unfolding acted_of
returns-then-action_kind-ne-PLAIN c =
    let did = DidCall c.args.t.now c.args.r.now (Err (refusal 13)) c.args.r.now in
    rung_passed did _ _ (lt-ltb _ _ (rw c.action_count.ensures at c.if-action_count-a.false))
    (rung_stopped did _ _ (ne_eqb _ _ (rw c.action_kind.ensures at c.if-action_kind-ne-PLAIN.true))
    (refl, leaves_same c.args.t.now c.args.r.now c.requires.1))

pub returns : goal.returns
unfolding acted_of
returns c =
    let did = DidCall c.args.t.now c.args.r.now c.plain.result c.plain.new.r in
    rung_passed did _ _ (lt-ltb _ _ (rw c.action_count.ensures at c.if-action_count-a.false))
    (rung_passed did _ _ (eq-eqb _ _ (rw c.action_kind.ensures at c.if-action_kind-ne-PLAIN.false)) c.plain.ensures)
