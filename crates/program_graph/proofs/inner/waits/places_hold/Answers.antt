use Prim.Native.Nat.{◌+◌, ◌-◌}
use mathlib.Core.Path.{◌≡◌, refl, ◌∙◌}
use native.Mathlib.Omega.{arith}
use borrow.Author.Rules.{rules}
use Rattle.graph_tables.specs.RunWords.{run_processes}
use Rattle.program_graph.proofs.LeaveLaws.{few_places, lent_known, holds_lent}
use Rattle.program_graph.proofs.inner.waits.places_hold.Goals as goal

pub overflow_add-n : goal.overflow_add-n
overflow_add-n c =
    let few = few_places c.args.t.now c.args.r.now c.requires.0 c.requires.1 _ refl in
    omega (arith, few)

pub slice_bounds-places_hold-end : goal.slice_bounds-places_hold-end
slice_bounds-places_hold-end c =
    let few = few_places c.args.t.now c.args.r.now c.requires.0 c.requires.1 _ refl in
    search rules

pub places_hold-requires : goal.places_hold-requires
places_hold-requires c =
    let n = run_processes c.args.r.now in
    let e : 3 + n - 3 ≡ n = omega arith in
    (c.requires.0, c.requires.2, rw e (lent_known c.args.t.now c.args.r.now c.requires.0 c.requires.1 n refl))

pub returns : goal.returns
returns c =
    let n = run_processes c.args.r.now in
    let e : 3 + n - 3 ≡ n = omega arith in
    let given = rw e at c.places_hold.ensures in
    given ∙ holds_lent c.args.t.now c.args.r.now c.requires.0 c.requires.1 n refl _
