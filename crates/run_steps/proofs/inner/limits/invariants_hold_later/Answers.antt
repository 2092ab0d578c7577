use Rattle.std.proofs.Common.{rules}
use Rattle.graph_tables.specs.Words.{invariant_group, clock_count}
use Rattle.run_steps.specs.Steps.{limit_holds, limits_hold, invariants_hold, shifted_below}
use Rattle.laws.proofs.Chains.{all_in_range}
use Rattle.run_steps.proofs.inner.limits.invariants_hold_later.Goals as goal

pub returns : goal.returns
unfolding invariants_hold limits_hold
returns c =
    rw (c.invariant_count.ensures, c.invariant_group-g.ensures) at
    (all_in_range (limit_holds c.args.t.now c.invariant_group-g.result (shifted_below c.args.clocks.now c.args.delta (clock_count c.args.t.now)))
    c.invariant_count.result c.all.ensures.ran (λ x b t k. search rules))
