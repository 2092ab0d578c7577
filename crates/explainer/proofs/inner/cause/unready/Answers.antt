use mathlib.Core.Path.{◌≡◌, sym, subst, ◌∙◌}
use mathlib.Core.Bool.{true}
use native.Mathlib.Omega.{arith}
use lib.ListN.{length}
use borrow.Author.Rules.{rules}
use Rattle.laws.specs.Below.{all_below}
use Rattle.laws.proofs.BelowLaws.{all_none, all_more}
use Rattle.laws.proofs.Tests.{held, failed}
use Rattle.run_steps.proofs.LowestLaws.{lowest_none, lowest_at}
use Rattle.program_graph.specs.Inner.{run_at}
use Rattle.explainer.specs.Cause.{ready_in}
use Rattle.explainer.proofs.inner.cause.unready.Goals as goal

pub loop-p-init : goal.loop-p-init
loop-p-init c = (search rules, all_none _)

pub is_ready-requires : goal.is_ready-requires
is_ready-requires c =
    (c.requires.0, c.requires.1, c.requires.2, c.requires.3, omega arith)

pub returns-then-not-is_ready : goal.returns-then-not-is_ready
returns-then-not-is_ready c =
    sym (lowest_at _ _ c.loop-p.p (omega (arith, c.requires.3)) c.loop-p.invariant.1 (failed c.is_ready.ensures c.if-not-is_ready.true))

pub loop-p-preserved : goal.loop-p-preserved
loop-p-preserved c = (omega arith, all_more _ _ c.loop-p.invariant.1 (held c.is_ready.ensures c.if-not-is_ready.false))

pub returns : goal.returns
returns c =
    let e : c.loop-p.p ≡ length c.args.posts.now = omega arith in
    c.requires.3 ∙ sym (lowest_none _ _ (subst (λ n. all_below n (ready_in c.args.t.now (run_at c.args.r.now) c.args.a c.args.posts.now) ≡ true)
    (e ∙ c.requires.3) c.loop-p.invariant.1))
