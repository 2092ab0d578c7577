use mathlib.Core.Path.{◌≡◌, refl, ap, ◌∙◌}
use native.Mathlib.Omega.{arith}
use native.Mathlib.Numerals.{add-one}
use lib.ListN.{length-set}
use borrow.Author.Rules.{rules}
use Rattle.graph_tables.specs.Words.{variable_count, kind_at}
use Rattle.program_graph.specs.FreshWords.{kind_cell, put_below}
use Rattle.program_graph.proofs.inner.fresh_words.put_kinds.Goals as goal

pub loop-v-init : goal.loop-v-init
unfolding put_below
loop-v-init c =
    (search rules, omega (arith, c.variable_count-v-end.ensures, c.requires.0.counts.variables), c.variable_count-v-end.ensures, refl, refl)

pub loop-v-preserved : goal.loop-v-preserved
unfolding put_below
loop-v-preserved c = (
  omega arith,
  c.loop-v.invariant.1,
  c.loop-v.invariant.2,
  simp length-set c.loop-v.invariant.3,
  rw add-one (cc (c.loop-v.invariant.4, c.kind_at.ensures)),
)

pub returns : goal.returns
returns c =
    let e : c.loop-v.v ≡ variable_count c.args.t.now = omega (arith, c.loop-v.invariant.2) in
    c.loop-v.invariant.4 ∙ ap (put_below c.args.r.now kind_cell (kind_at c.args.t.now)) e
