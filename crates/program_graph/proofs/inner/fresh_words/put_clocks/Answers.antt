use mathlib.Core.Path.{◌≡◌, refl, ap, ◌∙◌}
use native.Mathlib.Omega.{arith}
use native.Mathlib.Numerals.{add-one}
use lib.ListN.{length-set}
use borrow.Author.Rules.{rules}
use Rattle.graph_tables.specs.Words.{clock_count}
use Rattle.program_graph.specs.FreshWords.{clock_cell, zero_time, put_below}
use Rattle.program_graph.proofs.inner.fresh_words.put_clocks.Goals as goal

pub loop-c-init : goal.loop-c-init
unfolding put_below
loop-c-init c =
    (search rules, omega (arith, c.clock_count-c-end.ensures, c.requires.0.counts.clocks), c.clock_count-c-end.ensures, refl, refl)

pub loop-c-preserved : goal.loop-c-preserved
unfolding put_below
loop-c-preserved c = (
  omega arith,
  c.loop-c.invariant.1,
  c.loop-c.invariant.2,
  simp length-set c.loop-c.invariant.3,
  rw add-one (cc c.loop-c.invariant.4),
)

pub returns : goal.returns
returns c =
    let e : c.loop-c.c ≡ clock_count c.args.t.now = omega (arith, c.loop-c.invariant.2) in
    c.loop-c.invariant.4 ∙ ap (put_below c.args.r.now clock_cell zero_time) e
