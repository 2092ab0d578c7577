use mathlib.Core.Path.{refl, ◌∙◌}
use native.Mathlib.Omega.{arith}
use Rattle.program_graph.proofs.LeaveLaws.{variables_same}
use Rattle.program_graph.proofs.ValueLaws.{stored_run, is_waiting_back}
use Rattle.program_graph.proofs.inner.by_value.is_waiting.Goals as goal

pub store-requires : goal.store-requires
store-requires c =
    (refl, omega (arith, variables_same c.args.t.now c.args.run c.requires.1, c.requires.0.counts.variables))

pub is_waiting_on-requires : goal.is_waiting_on-requires
is_waiting_on-requires c =
    (c.requires.0, stored_run c.args.t.now c.args.run c.store.new.r c.requires.0 c.requires.1 c.store.ensures)

pub returns : goal.returns
returns c =
    c.is_waiting_on.ensures
    ∙ is_waiting_back c.args.t.now c.args.run c.store.new.r c.requires.0 c.requires.1 c.store.ensures
