use mathlib.Core.Path.{◌∙◌}
use native.Mathlib.Omega.{arith}
use Rattle.laws.proofs.BelowLaws.{and_yes, and_no}
use Rattle.laws.proofs.Tests.{held, failed}
use Rattle.explainer.specs.Same.{graph_same}
use Rattle.explainer.proofs.inner.same.graph_same.Goals as goal

pub graph_at-graph-requires : goal.graph_at-graph-requires
graph_at-graph-requires c = (c.requires.0.words, omega (arith, c.requires.3, c.requires.0.graphs))

pub transitions_same-requires : goal.transitions_same-requires
transitions_same-requires c =
    rw c.graph_at-graph.ensures (c.requires.0.graph _ c.requires.3, c.requires.1, c.requires.2, omega (arith, c.requires.3, c.requires.0.graphs))

pub returns-then-not-transitions_same : goal.returns-then-not-transitions_same
unfolding graph_same
returns-then-not-transitions_same c =
    and_no _ (failed (c.transitions_same.ensures ∙ rw c.graph_at-graph.ensures) c.if-not-transitions_same.true)

pub locations_same-requires : goal.locations_same-requires
locations_same-requires c =
    rw c.graph_at-graph.ensures (c.requires.0.graph _ c.requires.3, c.requires.2, omega (arith, c.requires.3, c.requires.0.graphs))

pub returns : goal.returns
unfolding graph_same
returns c =
    and_yes (held (c.transitions_same.ensures ∙ rw c.graph_at-graph.ensures) c.if-not-transitions_same.false)
    (c.locations_same.ensures ∙ rw c.graph_at-graph.ensures)
