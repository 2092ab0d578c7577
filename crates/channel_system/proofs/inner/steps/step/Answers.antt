use Prim.Native.Nat.{ℕ, ◌-◌, ◌≤◌}
use mathlib.Core.Path.{◌≡◌, refl, sym, ap, ◌∙◌}
use native.Mathlib.Omega.{arith}
use lib.ListN.{length}
use borrow.Author.Rules.{rules}
use mathlib.Core.Bool.{true}
use lib.Dec.{ltb}
use borrow.Author.Tests.{lt-ltb, le-ltb, eq-eqb, ne_eqb}
use Rattle.laws.specs.Ladder.{unless}
use Rattle.laws.proofs.Tests.{held, failed}
use Rattle.system_tables.specs.Words.{graph_count}
use mathlib.Core.List.{List}
use mathlib.Core.Path.{subst}
use lib.ListN.{take}
use borrow.Author.Tests.{ltb-true}
use Rattle.channel_system.specs.Facts.{Fitting, DidMove}
use Rattle.channel_system.specs.Steps.{locations_of, few_of, spoken_by, step_as}
use Rattle.channel_system.proofs.RunLaws.{few_processes}
use Rattle.channel_system.proofs.PostLaws.{locations_length, few_bounds, few_posts_lem}
use Rattle.channel_system.specs.Steps.{moved_of}
use Rattle.channel_system.proofs.inner.steps.step.Goals as goal
use Rattle.channel_system.proofs.inner.steps.step.Goals.{Else-graph_count-g}

-- the graph is known
known : (e : Else-graph_count-g)
    → ltb e.args.pg.0
    (graph_count e.args.t.now) ≡ true
known e = lt-ltb _ _ (rw e.graph_count.ensures at e.if-graph_count-g.false)

pub returns-then-graph_count-g : goal.returns-then-graph_count-g
unfolding moved_of unless
returns-then-graph_count-g c =
    rw (le-ltb _ _ (rw c.graph_count.ensures at c.if-graph_count-g.true)) (refl, refl)

pub returns-then-owner-g : goal.returns-then-owner-g
unfolding moved_of unless
returns-then-owner-g c =
    rw (known (goal.at.returns-then-owner-g c).Else-graph_count-g, ne_eqb _ _ c.if-owner-g.true) (refl, refl)

pub returns-then-not-own : goal.returns-then-not-own
unfolding moved_of unless
returns-then-not-own c =
    rw (known (goal.at.returns-then-not-own c).Else-graph_count-g, eq-eqb _ _ c.if-owner-g.false, failed c.own.ensures c.if-not-own.true) (refl, refl)

pub locations-requires : goal.locations-requires
locations-requires c =
    let ps = c.args.posts.now in
    let h : c.few-n.result ≡ few_of (length ps) = c.few-n.ensures in
    let few = few_bounds (length ps) in
    (omega (arith, h, few.0), omega (arith, h, few.1))

pub slice_bounds-step_as-end : goal.slice_bounds-step_as-end
slice_bounds-step_as-end c =
    let ps = c.args.posts.now in
    let h : c.few-n.result ≡ few_of (length ps) = c.few-n.ensures in
    let l : c.few-n.result ≤ length c.locations.new.to = omega (arith, h, (few_bounds (length ps)).1, c.locations.ensures.1) in
    search (rules, l)

pub returns : goal.returns
unfolding moved_of unless
returns c =
    let t = c.args.t.now in
    let s = c.args.s.now in
    let g = c.args.pg.0 in
    let a = c.args.action.1.0 in
    let ps = c.args.posts.now in
    let f : Fitting t s g = record { table = c.requires.0; state = c.requires.1; known = ltb-true _ _ (known (goal.at.returns c).Else-graph_count-g) } in
    let minus : c.few-n.result - 0 ≡ c.few-n.result = omega arith in
    let same = ap (λ (k : ℕ). take k c.locations.new.to) minus ∙ c.locations.ensures.0
    ∙ ap (λ (k : ℕ). take k (locations_of ps)) (c.few-n.ensures ∙ ap few_of (sym (locations_length ps))) in
    let moved = ap (λ (qs : List ℕ). step_as t s g a qs c.args.word (spoken_by t g a)) same
    ∙ few_posts_lem t s g (few_processes f) a (locations_of ps) c.args.word (spoken_by t g a) in
    rw (known (goal.at.returns c).Else-graph_count-g, eq-eqb _ _ c.if-owner-g.false, held c.own.ensures c.if-not-own.false)
    (subst (DidMove c.step_as.result c.step_as.new.s) moved c.step_as.ensures)
