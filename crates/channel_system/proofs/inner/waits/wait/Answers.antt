use Rattle.channel_system.specs.declared.answers.WaitError.TheVariants as WaitError
use Rattle.std.specs.Prelude.{Err}
use Prim.Native.Nat.{ℕ, ◌≤◌}
use mathlib.Core.Path.{◌≡◌, refl, ap}
use mathlib.Core.Bool.{false}
use native.Mathlib.Nat.{le_antisymm}
use native.Mathlib.Omega.{arith}
use Rattle.laws.specs.Ladder.{unless}
use Rattle.laws.specs.Below.{all_below}
use Rattle.laws.proofs.Tests.{held, failed}
use Rattle.system_tables.specs.Words.{graph_count}
use Rattle.run_steps.specs.Lowest.{lowest}
use Rattle.channel_system.specs.Waits.{graph_holds, passed_of}
use Rattle.run_steps.proofs.LowestLaws.{lowest_says, lowest_all, lowest_some}
use Rattle.channel_system.proofs.inner.waits.wait.Goals as goal

pub returns-then-not-all_fit : goal.returns-then-not-all_fit
unfolding passed_of unless
returns-then-not-all_fit c = rw (failed c.all_fit.ensures c.if-not-all_fit.true) (refl, refl)

pub objector-g-requires : goal.objector-g-requires
objector-g-requires c =
    (c.requires.0, c.requires.1, held c.all_fit.ensures c.if-not-all_fit.false)

pub overflow_cast-result : goal.overflow_cast-result
overflow_cast-result c =
    omega (arith, c.if-g-graph_count.true, c.graph_count.ensures, c.requires.0.graphs)

pub returns-then-g-graph_count : goal.returns-then-g-graph_count
unfolding passed_of unless
returns-then-g-graph_count c =
    let t = c.args.t.now in
    let holds = graph_holds t c.args.s.now c.args.delta in
    let some : all_below (graph_count t) holds ≡ false =
    lowest_some holds (graph_count t) (rw (c.objector-g.ensures, c.graph_count.ensures) at c.if-g-graph_count.true)
    in
    rw (held c.all_fit.ensures c.if-not-all_fit.false, some)
    (ap (λ (k : ℕ). Err (WaitError.Invariant (record { 0 = k }))) c.objector-g.ensures, refl)

pub later-requires : goal.later-requires
later-requires c =
    (c.requires.0, c.requires.1, held c.all_fit.ensures c.if-not-all_fit.false)

pub returns : goal.returns
unfolding passed_of unless
returns c =
    let t = c.args.t.now in
    let holds = graph_holds t c.args.s.now c.args.delta in
    let past : graph_count t ≤ lowest (graph_count t) holds = rw (c.objector-g.ensures, c.graph_count.ensures) at c.if-g-graph_count.false in
    let all = lowest_all holds (graph_count t) (le_antisymm (lowest_says holds (graph_count t)).low past) in
    rw (held c.all_fit.ensures c.if-not-all_fit.false, all) (refl, c.later.ensures)
