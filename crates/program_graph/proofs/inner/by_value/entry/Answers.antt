use mathlib.Core.Path.{refl, ap, ◌∙◌}
use native.Mathlib.Omega.{arith}
use Rattle.program_graph.proofs.LeaveLaws.{variables_same}
use Rattle.program_graph.proofs.ValueLaws.{stored_run, listed_back}
use mathlib.Core.List.{List}
use Rattle.graph_tables.specs.declared.answers.Entry.{Entry}
use Rattle.run_steps.specs.Listing.{seek}
use Rattle.program_graph.specs.Transitions.{entry_or_end}
use Rattle.program_graph.proofs.inner.by_value.entry.Goals as goal

pub store-requires : goal.store-requires
store-requires c =
    (refl, omega (arith, variables_same c.args.t.now c.args.run c.requires.1, c.requires.0.counts.variables))

pub listed_on-requires : goal.listed_on-requires
listed_on-requires c =
    (c.requires.0, stored_run c.args.t.now c.args.run c.store.new.r c.requires.0 c.requires.1 c.store.ensures)

pub returns : goal.returns
returns c =
    c.listed_on.ensures
    ∙ ap (λ (l : List Entry). entry_or_end (seek l c.args.k))
    (listed_back c.args.t.now c.args.run c.store.new.r c.requires.0 c.requires.1 c.store.ensures)
