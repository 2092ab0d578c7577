use mathlib.Core.Path.{◌∙◌}
use native.Mathlib.Omega.{arith}
use Rattle.laws.proofs.Tests.{held, failed, both_yes, both_no}
use Rattle.graph_tables.specs.Words.{clock_count}
use Rattle.run_steps.proofs.LaterLaws.{read_fits, limit_later}
use Rattle.run_steps.proofs.inner.limits.limit_holds_later.Goals as goal

pub overflow_add-time : goal.overflow_add-time
overflow_add-time c =
    let a = c.args in
    omega (arith, read_fits a.clocks.now a.delta (clock_count a.t.now) c.requires.5 c.requires.3 c.clock_of.ensures)

pub returns-then-not-lower_met : goal.returns-then-not-lower_met
returns-then-not-lower_met c =
    let a = c.args in
    both_no _ (rw (c.lower_of.ensures, c.clock_of.ensures) at (failed c.lower_met.ensures c.if-not-lower_met.true))
    ∙ limit_later a.t.now a.g a.i a.clocks.now a.delta (clock_count a.t.now) c.requires.3
    (omega (arith, c.requires.0.counts.clocks, c.requires.4))

pub returns : goal.returns
returns c =
    let a = c.args in
    both_yes (rw (c.lower_of.ensures, c.clock_of.ensures) at (held c.lower_met.ensures c.if-not-lower_met.false))
    (rw (c.upper_of.ensures, c.clock_of.ensures) at c.upper_met.ensures)
    ∙ limit_later a.t.now a.g a.i a.clocks.now a.delta (clock_count a.t.now) c.requires.3
    (omega (arith, c.requires.0.counts.clocks, c.requires.4))

pub clock_of-requires : goal.clock_of-requires
clock_of-requires c =
    (c.requires.0.words, c.requires.1, c.requires.2)

pub offset_bounds-clocks-clock_of : goal.offset_bounds-clocks-clock_of
offset_bounds-clocks-clock_of c =
    omega (arith, c.clock_of.ensures, c.requires.3, c.requires.0.counts.clocks, c.requires.4)

pub lower_of-requires : goal.lower_of-requires
lower_of-requires c =
    (c.requires.0.words, c.requires.1, c.requires.2)

pub upper_of-requires : goal.upper_of-requires
upper_of-requires c =
    (c.requires.0.words, c.requires.1, c.requires.2)
