use Prim.Native.Nat.{ℕ, ◌+◌, ◌-◌}
use mathlib.Core.Path.{◌≡◌, refl, sym, ap, ◌∙◌}
use native.Mathlib.Omega.{arith}
use borrow.Author.Rules.{rules}
use Rattle.laws.specs.Below.{all_below}
use Rattle.graph_tables.specs.RunWords.{run_processes, places_in, clocks_in}
use Rattle.run_steps.specs.Steps.{clock_fits, shifted_below, place_holds}
use Rattle.program_graph.specs.Inner.{run_at}
use Rattle.program_graph.proofs.WordLaws.{times_length}
use Rattle.program_graph.proofs.LeaveLaws.{clocks_same, few_places, lent_known, holds_lent}
use Rattle.program_graph.proofs.inner.waits.wait_holds.Goals as goal

pub overflow_add-n : goal.overflow_add-n
overflow_add-n c =
    let few = few_places c.args.t.now c.args.r.now c.requires.0 c.requires.1 _ refl in
    omega (arith, few)

pub slice_bounds-places_hold_later-end : goal.slice_bounds-places_hold_later-end
slice_bounds-places_hold_later-end c =
    let few = few_places c.args.t.now c.args.r.now c.requires.0 c.requires.1 _ refl in
    search rules

pub places_hold_later-requires : goal.places_hold_later-requires
places_hold_later-requires c =
    let t = c.args.t.now in
    let r = c.args.r.now in
    let n = run_processes r in
    let e : 3 + n - 3 ≡ n = omega arith in
    let same = clocks_same t (run_at r) c.requires.1.formed in (
      c.requires.0,
      times_length r c.requires.1.words,
      rw e (lent_known t r c.requires.0 c.requires.1 n refl),
      ap (λ (k : ℕ). all_below k (clock_fits (clocks_in r) c.args.delta)) (sym same) ∙ c.requires.2,
    )

pub returns : goal.returns
returns c =
    let t = c.args.t.now in
    let r = c.args.r.now in
    let n = run_processes r in
    let e : 3 + n - 3 ≡ n = omega arith in
    let given = rw e at c.places_hold_later.ensures in
    let same = clocks_same t (run_at r) c.requires.1.formed in
    given ∙ holds_lent t r c.requires.0 c.requires.1 n refl _
    ∙ ap (λ (k : ℕ). all_below n (place_holds t (places_in r) (shifted_below (clocks_in r) c.args.delta k))) (sym same)
