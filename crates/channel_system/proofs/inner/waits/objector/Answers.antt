use mathlib.Core.Path.{sym, ◌∙◌}
use native.Mathlib.Omega.{arith}
use borrow.Author.Rules.{rules}
use Rattle.laws.proofs.BelowLaws.{all_none, all_more, all_done}
use Rattle.laws.proofs.Tests.{held, failed}
use Rattle.run_steps.proofs.LowestLaws.{lowest_none, lowest_at}
use Rattle.channel_system.proofs.LaterLaws.{clock_fits_lem}
use Rattle.channel_system.proofs.inner.waits.objector.Goals as goal

pub loop-g-init : goal.loop-g-init
loop-g-init c = (search rules, c.graph_count-n.ensures, all_none _)

pub graph_holds-requires : goal.graph_holds-requires
graph_holds-requires c =
    let known = rw c.loop-g.invariant.1 at c.loop-g-test.true in (
      record { table = c.requires.0; state = c.requires.1; known = known },
      clock_fits_lem c.args.t.now c.requires.0 c.args.s.now c.requires.1 c.args.delta c.requires.2 c.loop-g.g known,
    )

pub returns-then-not-graph_holds : goal.returns-then-not-graph_holds
returns-then-not-graph_holds c =
    sym
    (lowest_at _ _ c.loop-g.g (rw c.loop-g.invariant.1 at c.loop-g-test.true) c.loop-g.invariant.2
    (failed c.graph_holds.ensures c.if-not-graph_holds.true))

pub loop-g-preserved : goal.loop-g-preserved
loop-g-preserved c =
    (omega arith, c.loop-g.invariant.1, all_more _ _ c.loop-g.invariant.2 (held c.graph_holds.ensures c.if-not-graph_holds.false))

pub returns : goal.returns
returns c =
    c.loop-g.invariant.1
    ∙ sym
    (lowest_none _ _
    (all_done _ _ c.loop-g.g (omega (arith, c.loop-g.invariant.1)) (omega (arith, c.loop-g.invariant.1)) c.loop-g.invariant.2))
