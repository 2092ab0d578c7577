use mathlib.Core.Path.{ap, ◌∙◌}
use mathlib.Core.List.{List}
use Prim.Native.Nat.{ℕ}
use Rattle.system_tables.specs.Words.{graph_count, channel_count}
use Rattle.system_state.specs.Fresh.{fresh_runs_below, fresh_queues_below, fresh_state}
use Rattle.system_state.proofs.inner.fresh.fresh_state.Goals as goal

pub returns : goal.returns
unfolding fresh_state
returns c =
    let t = c.args.t.now in
    c.fresh_queues.ensures
    ∙ ap (λ (x : List ℕ). fresh_queues_below x (channel_count t)) (c.fresh_runs.ensures
    ∙ ap (λ (x : List ℕ). fresh_runs_below t x (graph_count t)) c.set_time.ensures)
