use Prim.Native.Nat.{◌+◌, ◌-◌}
use mathlib.Core.Path.{◌≡◌, ◌∙◌}
use native.Mathlib.Omega.{arith}
use lib.ListN.{length}
use borrow.Author.Rules.{rules}
use Rattle.program_graph.proofs.WordLaws.{vars_length, times_length}
use Rattle.program_graph.proofs.LeaveLaws.{few_places, lent_length, lent_known, ready_lent}
use Rattle.program_graph.proofs.inner.steps.ready_on.Goals as goal

pub slice_bounds-ready-end-3 : goal.slice_bounds-ready-end-3
slice_bounds-ready-end-3 c =
    let few = few_places c.args.t.now c.args.r.now c.requires.0 c.requires.1 _ c.requires.3 in
    search rules

pub ready-requires : goal.ready-requires
ready-requires c =
    let n = length c.args.posts.now in
    let e : 3 + n - 3 ≡ n = omega arith in
    let size = lent_length c.args.t.now c.args.r.now c.requires.0 c.requires.1 n c.requires.3 in (
      c.requires.0,
      vars_length c.args.r.now c.requires.1.words,
      times_length c.args.r.now c.requires.1.words,
      c.requires.2,
      rw e (lent_known c.args.t.now c.args.r.now c.requires.0 c.requires.1 n c.requires.3),
      rw e (omega (arith, size)),
    )

pub returns : goal.returns
returns c =
    let n = length c.args.posts.now in
    let e : 3 + n - 3 ≡ n = omega arith in
    let given = rw e at c.ready.ensures in
    given ∙ ready_lent c.args.t.now c.args.r.now c.requires.0 c.requires.1 n c.requires.3 _ _ _ _ _
