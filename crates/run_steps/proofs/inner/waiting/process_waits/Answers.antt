use Rattle.std.proofs.Common.{rules, length}
use Rattle.run_steps.specs.Waiting.{awaited_of, process_waits}
use Rattle.laws.proofs.Ranges.{any_in_range}
use Rattle.run_steps.proofs.inner.waiting.process_waits.Goals as goal

pub returns : goal.returns
unfolding process_waits
returns c =
    rw c.transition_count.ensures at
    (any_in_range (awaited_of c.args.t.now c.args.clocks.now c.args.places.now (length c.args.places.now) c.args.p) c.transition_count.result
    c.any.ensures.ran (λ x b t k. search rules))
