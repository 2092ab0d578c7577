use mathlib.Core.Path.{sym, ◌∙◌}
use native.Mathlib.Omega.{arith}
use borrow.Author.Rules.{rules}
use Rattle.laws.proofs.BelowLaws.{all_none, all_more, all_done}
use Rattle.run_steps.proofs.LowestLaws.{lowest_none, lowest_at}
use Rattle.explainer.proofs.CandidateLaws.{other_yes, other_no}
use Rattle.explainer.proofs.inner.cause.first.Goals as goal

pub loop-k-init : goal.loop-k-init
loop-k-init c = (search rules, all_none _)

pub key_of-requires : goal.key_of-requires
key_of-requires c =
    (c.requires.words, omega (arith, c.transition_count-count.ensures, c.requires.counts.transitions))

pub returns-then-key_of-key : goal.returns-then-key_of-key
returns-then-key_of-key c =
    sym (lowest_at _ _ c.loop-k.k (omega (arith, c.transition_count-count.ensures)) c.loop-k.invariant.1
    (other_yes _ _ _ (sym c.key_of.ensures ∙ c.if-key_of-key.true)))

pub loop-k-preserved : goal.loop-k-preserved
loop-k-preserved c =
    (omega arith, all_more _ _ c.loop-k.invariant.1 (other_no _ _ _ (λ e. c.if-key_of-key.false (c.key_of.ensures ∙ e))))

pub returns : goal.returns
returns c =
    c.transition_count-count.ensures
    ∙ sym (lowest_none _ _ (all_done _ _ c.loop-k.k (omega (arith, c.transition_count-count.ensures)) (omega (arith, c.transition_count-count.ensures))
    c.loop-k.invariant.1))
