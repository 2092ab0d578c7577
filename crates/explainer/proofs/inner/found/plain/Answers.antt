use Prim.Native.Nat.{ℕ, ◌-◌, ◌≤◌}
use mathlib.Core.Path.{◌≡◌, sym, ap, ◌∙◌}
use mathlib.Core.Bool.{true}
use mathlib.Core.List.{List}
use native.Mathlib.Omega.{arith}
use lib.Dec.{ltb}
use lib.ListN.{length, take}
use borrow.Author.Rules.{rules}
use borrow.Author.Tests.{ltb-true, lt-ltb, le-ltb, eq-eqb, ne_eqb}
use Rattle.laws.specs.Ladder.{unless}
use Rattle.laws.proofs.Tests.{held, failed}
use Rattle.system_tables.specs.Words.{graph_count}
use Rattle.channel_system.specs.Facts.{Fitting}
use Rattle.channel_system.specs.Steps.{locations_of, few_of}
use Rattle.channel_system.proofs.RunLaws.{few_processes}
use Rattle.channel_system.proofs.PostLaws.{locations_length, few_bounds}
use Rattle.explainer.specs.Why.{graph_why, plain_why}
use Rattle.explainer.proofs.WhyLaws.{why_few}
use Rattle.explainer.proofs.inner.found.plain.Goals as goal
use Rattle.explainer.proofs.inner.found.plain.Goals.{Else-graph_count-g}

-- the graph is known
known : (e : Else-graph_count-g) → ltb e.args.pg.0 (graph_count e.args.t.now) ≡ true
known e = lt-ltb _ _ (rw e.graph_count.ensures at e.if-graph_count-g.false)

pub returns-then-graph_count-g : goal.returns-then-graph_count-g
unfolding plain_why unless
returns-then-graph_count-g c =
    rw (le-ltb _ _ (rw c.graph_count.ensures at c.if-graph_count-g.true)) (c.answered.ensures ∙ rw c.number.ensures)

pub returns-then-owner-g : goal.returns-then-owner-g
unfolding plain_why unless
returns-then-owner-g c = rw (known (goal.at.returns-then-owner-g c).Else-graph_count-g, ne_eqb _ _ c.if-owner-g.true) (c.answered-then-owner-g.ensures ∙ rw c.number-then-owner-g.ensures)

pub returns-then-not-own : goal.returns-then-not-own
unfolding plain_why unless
returns-then-not-own c =
    rw (known (goal.at.returns-then-not-own c).Else-graph_count-g, eq-eqb _ _ c.if-owner-g.false, failed c.own.ensures c.if-not-own.true)
    (c.answered-then-not-own.ensures ∙ rw c.number-then-not-own.ensures)

pub locations-requires : goal.locations-requires
locations-requires c =
    let ps = c.args.posts.now in
    let h : c.few-n.result ≡ few_of (length ps) = c.few-n.ensures in
    let few = few_bounds (length ps) in
    (omega (arith, h, few.0), omega (arith, h, few.1))

pub slice_bounds-on_graph-end : goal.slice_bounds-on_graph-end
slice_bounds-on_graph-end c =
    let ps = c.args.posts.now in
    let h : c.few-n.result ≡ few_of (length ps) = c.few-n.ensures in
    let l : c.few-n.result ≤ length c.locations.new.to = omega (arith, h, (few_bounds (length ps)).1, c.locations.ensures.1) in
    search (rules, l)

fitting : (e : Else-graph_count-g) → Fitting e.args.t.now e.args.s.now e.args.pg.0
fitting e = record { table = e.requires.0; state = e.requires.1; known = ltb-true _ _ (known e) }

pub on_graph-requires : goal.on_graph-requires
on_graph-requires c = fitting (goal.at.on_graph-requires c).Else-graph_count-g

pub returns : goal.returns
unfolding plain_why unless
returns c =
    let t = c.args.t.now in
    let s = c.args.s.now in
    let g = c.args.pg.0 in
    let a = c.args.action.1.0 in
    let ps = c.args.posts.now in
    let minus : c.few-n.result - 0 ≡ c.few-n.result = omega arith in
    let same = ap (λ (k : ℕ). take k c.locations.new.to) minus ∙ c.locations.ensures.0
    ∙ ap (λ (k : ℕ). take k (locations_of ps)) (c.few-n.ensures ∙ ap few_of (sym (locations_length ps))) in
    rw (known (goal.at.returns c).Else-graph_count-g, eq-eqb _ _ c.if-owner-g.false, held c.own.ensures c.if-not-own.false)
    (c.on_graph.ensures ∙ ap (λ (qs : List ℕ). graph_why t s g a qs c.args.word) same
    ∙ why_few t s g a (locations_of ps) c.args.word (few_processes (fitting (goal.at.returns c).Else-graph_count-g)))
