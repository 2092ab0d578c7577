use mathlib.Core.Path.{◌≡◌, refl, ap, ◌∙◌}
use native.Mathlib.Omega.{arith}
use native.Mathlib.Numerals.{add-one}
use lib.ListN.{length-set}
use borrow.Author.Rules.{rules}
use Rattle.graph_tables.specs.Words.{process_count, place_at}
use Rattle.program_graph.specs.FreshWords.{place_cell, put_below}
use Rattle.program_graph.proofs.inner.fresh_words.put_places.Goals as goal

pub loop-p-init : goal.loop-p-init
unfolding put_below
loop-p-init c =
    (search rules, omega (arith, c.process_count-p-end.ensures, c.requires.0.counts.processes), c.process_count-p-end.ensures, refl, refl)

pub loop-p-preserved : goal.loop-p-preserved
unfolding put_below
loop-p-preserved c = (
  omega arith,
  c.loop-p.invariant.1,
  c.loop-p.invariant.2,
  simp length-set c.loop-p.invariant.3,
  rw add-one (cc (c.loop-p.invariant.4, c.place_at.ensures)),
)

pub returns : goal.returns
returns c =
    let e : c.loop-p.p ≡ process_count c.args.t.now = omega (arith, c.loop-p.invariant.2) in
    c.loop-p.invariant.4 ∙ ap (put_below c.args.r.now place_cell (place_at c.args.t.now)) e
