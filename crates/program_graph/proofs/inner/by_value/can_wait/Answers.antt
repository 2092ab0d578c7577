use mathlib.Core.Path.{refl, ◌∙◌}
use native.Mathlib.Omega.{arith}
use Rattle.program_graph.proofs.LeaveLaws.{variables_same}
use Rattle.program_graph.proofs.ValueLaws.{stored_run, can_wait_back}
use Rattle.program_graph.proofs.inner.by_value.can_wait.Goals as goal

pub store-requires : goal.store-requires
store-requires c =
    (refl, omega (arith, variables_same c.args.t.now c.args.run c.requires.1, c.requires.0.counts.variables))

pub can_wait_on-requires : goal.can_wait_on-requires
can_wait_on-requires c =
    (c.requires.0, stored_run c.args.t.now c.args.run c.store.new.r c.requires.0 c.requires.1 c.store.ensures)

pub returns : goal.returns
returns c =
    c.can_wait_on.ensures
    ∙ can_wait_back c.args.t.now c.args.run c.store.new.r c.requires.0 c.requires.1 c.store.ensures c.args.delta
