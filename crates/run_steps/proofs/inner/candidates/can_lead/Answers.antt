use Rattle.std.proofs.Common.{rules}
use mathlib.Core.Path.{sym}
use native.Mathlib.Omega.{arith}
use Rattle.grammar.specs.Slots.{slots_of}
use Rattle.graph_tables.specs.Words.{pre_of, action_of, post_of}
use Rattle.run_steps.specs.Steps.{leads_of}
use Rattle.run_steps.proofs.KeyLaws.{asked, no_way}
use Rattle.laws.proofs.Ranges.{any_in_range}
use Rattle.run_steps.proofs.inner.candidates.can_lead.Goals as goal

pub returns-then-post-ge-LOCATIONS : goal.returns-then-post-ge-LOCATIONS
returns-then-post-ge-LOCATIONS c = sym (no_way _ _ _ _ _ _ _ _ (omega arith))

pub returns : goal.returns
returns c =
    let key = c.key_with-key.result in
    let parts = asked _ _ _ _ c.key_with-key.ensures (omega arith) (omega arith) in
    rw (c.transition_count.ensures, parts.pre, parts.action, parts.post) at
    (any_in_range
    (leads_of c.args.t.now (slots_of c.args.vars.now) c.args.clocks.now c.args.after.now (pre_of key) (action_of key) (post_of key))
    c.transition_count.result c.any.ensures.ran (λ x b t k. search rules))
