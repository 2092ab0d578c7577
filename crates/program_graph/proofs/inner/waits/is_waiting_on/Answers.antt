use Prim.Native.Nat.{◌+◌, ◌-◌}
use mathlib.Core.Path.{◌≡◌, refl, ◌∙◌}
use native.Mathlib.Omega.{arith}
use borrow.Author.Rules.{rules}
use Rattle.laws.proofs.Tests.{held, failed}
use Rattle.laws.proofs.BelowLaws.{and_yes, and_no}
use Rattle.graph_tables.specs.RunWords.{run_processes}
use Rattle.program_graph.proofs.WordLaws.{times_length}
use Rattle.program_graph.proofs.LeaveLaws.{few_places, lent_known, waiting_lent}
use Rattle.program_graph.proofs.inner.waits.is_waiting_on.Goals as goal

pub returns-then-not-can_wait_on : goal.returns-then-not-can_wait_on
returns-then-not-can_wait_on c = and_no _ (failed c.can_wait_on.ensures c.if-not-can_wait_on.true)

pub overflow_add-n : goal.overflow_add-n
overflow_add-n c =
    let few = few_places c.args.t.now c.args.r.now c.requires.0 c.requires.1 _ refl in
    omega (arith, few)

pub slice_bounds-waiting-end-2 : goal.slice_bounds-waiting-end-2
slice_bounds-waiting-end-2 c =
    let few = few_places c.args.t.now c.args.r.now c.requires.0 c.requires.1 _ refl in
    search rules

pub waiting-requires : goal.waiting-requires
waiting-requires c =
    let n = run_processes c.args.r.now in
    let e : 3 + n - 3 ≡ n = omega arith in (
      c.requires.0,
      times_length c.args.r.now c.requires.1.words,
      rw e (lent_known c.args.t.now c.args.r.now c.requires.0 c.requires.1 n refl),
    )

pub returns : goal.returns
returns c =
    let n = run_processes c.args.r.now in
    let e : 3 + n - 3 ≡ n = omega arith in
    let given = rw e at c.waiting.ensures in
    and_yes (held c.can_wait_on.ensures c.if-not-can_wait_on.false)
    (given ∙ waiting_lent c.args.t.now c.args.r.now c.requires.0 c.requires.1 n refl _)
