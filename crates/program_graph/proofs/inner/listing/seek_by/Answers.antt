use Prim.Native.Nat.{◌+◌, ◌-◌}
use mathlib.Core.Path.{◌≡◌, refl, ap, ◌∙◌}
use native.Mathlib.Omega.{arith}
use borrow.Author.Rules.{rules}
use mathlib.Core.List.{List}
use Rattle.graph_tables.specs.declared.answers.Entry.{Entry}
use Rattle.run_steps.specs.Listing.{seek}
use Rattle.graph_tables.specs.RunWords.{run_processes}
use Rattle.program_graph.proofs.WordLaws.{vars_length, times_length}
use Rattle.program_graph.proofs.LeaveLaws.{few_places, lent_known, shared_lent}
use Rattle.program_graph.proofs.inner.listing.seek_by.Goals as goal

pub overflow_add-n : goal.overflow_add-n
overflow_add-n c =
    let few = few_places c.args.t.now c.args.r.now c.requires.0 c.requires.1 _ refl in
    omega (arith, few)

pub slice_bounds-seek_action-end-3 : goal.slice_bounds-seek_action-end-3
slice_bounds-seek_action-end-3 c =
    let few = few_places c.args.t.now c.args.r.now c.requires.0 c.requires.1 _ refl in
    search rules

pub seek_action-requires : goal.seek_action-requires
seek_action-requires c =
    let n = run_processes c.args.r.now in
    let e : 3 + n - 3 ≡ n = omega arith in (
      c.requires.0,
      vars_length c.args.r.now c.requires.1.words,
      times_length c.args.r.now c.requires.1.words,
      rw e (lent_known c.args.t.now c.args.r.now c.requires.0 c.requires.1 n refl),
    )

pub returns : goal.returns
returns c =
    let n = run_processes c.args.r.now in
    let e : 3 + n - 3 ≡ n = omega arith in
    let given = rw e at c.seek_action.ensures in
    given
    ∙ ap (λ (l : List Entry). seek l c.args.k) (shared_lent c.args.t.now c.args.r.now c.requires.0 c.requires.1 n refl _ _ _)
