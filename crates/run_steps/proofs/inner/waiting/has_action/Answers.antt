use Rattle.std.proofs.Common.{rules}
use native.Mathlib.Omega.{arith}
use Rattle.graph_tables.specs.Words.{pre_of, action_of}
use Rattle.run_steps.specs.Steps.{leaves_by}
use Rattle.run_steps.proofs.KeyLaws.{asked}
use Rattle.laws.proofs.Ranges.{any_in_range}
use Rattle.run_steps.proofs.inner.waiting.has_action.Goals as goal

pub returns : goal.returns
returns c =
    let first = c.key_with-first.result in
    let key = asked _ _ _ 0 c.key_with-first.ensures (omega arith) (omega arith) in
    rw (c.transition_count.ensures, key.pre, key.action) at
    (any_in_range (leaves_by c.args.t.now (pre_of first) (action_of first)) c.transition_count.result c.any.ensures.ran (λ x b t k. search rules))
