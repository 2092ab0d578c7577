use Prim.Native.Nat.{ℕ, ◌+◌}
use mathlib.Core.Path.{ap, ◌∙◌}
use mathlib.Core.List.{List}
use native.Mathlib.Omega.{arith}
use Rattle.system_tables.specs.Words.{graph_count}
use Rattle.system_state.specs.Words.{with_time}
use Rattle.channel_system.specs.Waits.{later_below, later_state}
use Rattle.channel_system.proofs.LaterLaws.{time_fits_lem}
use Rattle.channel_system.proofs.inner.waits.later.Goals as goal

pub overflow_cast-end : goal.overflow_cast-end
overflow_cast-end c =
    omega (arith, c.time_of.ensures, c.requires.1.time)

pub overflow_add-end : goal.overflow_add-end
overflow_add-end c =
    let low = time_fits_lem c.args.t.now c.requires.0 c.args.s.now c.requires.1 c.args.delta c.requires.2 in
    omega (arith, c.time_of.ensures, low)

pub returns : goal.returns
unfolding later_state
returns c =
    let t = c.args.t.now in
    let s = c.args.s.now in
    c.set_time.ensures
    ∙ ap (λ (x : List ℕ). with_time x (c.time_of.result + c.args.delta)) c.later_graphs.ensures
    ∙ ap (λ (n : ℕ). with_time (later_below t s c.args.delta (graph_count t)) (n + c.args.delta)) c.time_of.ensures
