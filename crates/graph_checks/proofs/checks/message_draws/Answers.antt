use Rattle.laws.specs.Below.{sum_below}
use Rattle.laws.proofs.BelowLaws.{sum_none, sum_more}
use Rattle.grammar.proofs.DrawLaws.{draws_few}
use Rattle.graph_edits.specs.Edits.{chosen}
use Rattle.graph_checks.specs.Checks.{message_draws}
use lib.ListN.{length}
use Prim.Native.Nat.{ℕ, ◌≤◌}
use mathlib.Core.Path.{◌≡◌, sym, ap, ◌∙◌}
use native.Mathlib.Omega.{arith}
use borrow.Author.Rules.{rules}
use Rattle.graph_tables.specs.Sizes.{item_room}
use Rattle.graph_checks.proofs.checks.message_draws.Goals as goal
use Rattle.graph_checks.proofs.checks.message_draws.Goals.{After-count_draws-sum}

pub loop-i-init : goal.loop-i-init
loop-i-init c = (search rules, search rules, sym (sum_none _))

-- an expression has at most a draw for each item
few : (d : After-count_draws-sum) → d.count_draws-sum.result ≤ item_room
few d =
    let h = d.before in
    let l = h.before.before in
    let s = l.before.before.before.before.before in
    let b : length h.choose.result.now ≤ item_room = rw h.choose.ensures (s.requires.1 l.loop-i.i (omega arith)) in
    omega (arith, d.count_draws-sum.ensures, draws_few h.choose.result.now)

pub overflow_add-sum : goal.overflow_add-sum
overflow_add-sum c =
    let l = c.before.before.before in
    omega (arith, few (goal.at.overflow_add-sum c).After-count_draws-sum, l.loop-i.invariant.1, l.requires.0)

pub loop-i-preserved : goal.loop-i-preserved
unfolding message_draws
loop-i-preserved c =
    let h = c.before in
    let l = h.before.before in (
      omega arith,
      omega (arith, few (goal.at.loop-i-preserved c).After-count_draws-sum, l.loop-i.invariant.1),
      rw (l.loop-i.invariant.2, c.count_draws-sum.ensures, h.choose.ensures) (sym (sum_more _ _)),
    )

pub returns : goal.returns
returns c =
    let l = c.before in
    let s = l.args in
    let e : l.loop-i.i ≡ s.count = omega arith in
    l.loop-i.invariant.2 ∙ ap (λ (n : ℕ). sum_below n (message_draws (chosen s.w.now s.x.now s.y.now s.z.now))) e
