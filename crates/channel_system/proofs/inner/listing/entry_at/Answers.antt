use mathlib.Core.Path.{◌≡◌, sym, ◌∙◌}
use native.Mathlib.Omega.{arith}
use borrow.Author.Rules.{rules}
use Rattle.system_tables.specs.Words.{graph_count}
use Rattle.channel_system.proofs.EntryLaws.{passes_none, passes_more, entry_found, entry_end}
use Rattle.channel_system.proofs.inner.listing.entry_at.Goals as goal

pub loop-g-init : goal.loop-g-init
loop-g-init c =
    (search rules, c.graph_count-g-end.ensures, passes_none c.args.t.now c.args.s.now c.args.k)

pub seek_on-requires : goal.seek_on-requires
seek_on-requires c =
    record { table = c.requires.0; state = c.requires.1; known = rw c.loop-g.invariant.1 at c.loop-g-test.true }

pub overflow_cast-result : goal.overflow_cast-result
overflow_cast-result c =
    omega (arith, c.loop-g-test.true, c.loop-g.invariant.1, c.requires.0.graphs)

pub returns-in-Found : goal.returns-in-Found
returns-in-Found c =
    let x = c.args in
    entry_found x.t.now x.s.now x.k (graph_count x.t.now) c.loop-g.g (rw c.loop-g.invariant.1 at c.loop-g-test.true)
    c.loop-g.invariant.2 (sym c.seek_on.ensures ∙ c.in-Found.is)

pub loop-g-preserved : goal.loop-g-preserved
loop-g-preserved c =
    let x = c.args in (
      omega arith,
      c.loop-g.invariant.1,
      passes_more x.t.now x.s.now x.k c.loop-g.g c.loop-g.invariant.2 (sym c.seek_on.ensures ∙ c.in-Left.is),
    )

pub returns : goal.returns
returns c =
    let x = c.args in
    let all : c.loop-g.g ≡ graph_count x.t.now = omega (arith, c.loop-g.invariant.1) in
    entry_end x.t.now x.s.now x.k (graph_count x.t.now) c.loop-g.g all c.loop-g.invariant.2
