use mathlib.Core.Path.{◌≡◌, refl, ap, ◌∙◌}
use native.Mathlib.Omega.{arith}
use native.Mathlib.Numerals.{add-one}
use borrow.Author.Rules.{rules}
use Rattle.system_tables.specs.Words.{graph_count}
use Rattle.system_state.specs.Fresh.{fresh_runs_below}
use Rattle.system_state.proofs.FreshLaws.{fresh_run_words}
use Rattle.system_state.proofs.inner.fresh.fresh_runs.Goals as goal

pub loop-g-init : goal.loop-g-init
unfolding fresh_runs_below
loop-g-init c = (search rules, c.graph_count-g-end.ensures, c.requires.1, refl)

pub fresh_run_at-requires : goal.fresh_run_at-requires
fresh_run_at-requires c =
    (c.requires.0, c.loop-g.invariant.2, omega (arith, c.loop-g.invariant.1))

pub loop-g-preserved : goal.loop-g-preserved
unfolding fresh_runs_below
loop-g-preserved c = (
  omega arith,
  c.loop-g.invariant.1,
  rw c.fresh_run_at.ensures
      (fresh_run_words c.args.t.now c.requires.0 c.loop-g.s c.loop-g.invariant.2 c.loop-g.g (omega (arith, c.loop-g.invariant.1))),
  rw add-one (cc (c.loop-g.invariant.3, c.fresh_run_at.ensures)),
)

pub returns : goal.returns
returns c =
    let e : c.loop-g.g ≡ graph_count c.args.t.now = omega (arith, c.loop-g.invariant.1) in
    c.loop-g.invariant.3 ∙ ap (fresh_runs_below c.args.t.now c.args.s.now) e
