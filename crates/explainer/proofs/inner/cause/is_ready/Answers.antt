use Prim.Native.Nat.{◌+◌, ◌-◌, ◌<◌}
use mathlib.Core.Path.{◌≡◌, ap, ◌∙◌}
use native.Mathlib.Omega.{arith}
use lib.ListN.{length, drop, length-drop}
use lib.Seq.{length-take-le}
use borrow.Author.Rules.{rules}
use Rattle.graph_tables.specs.RunWords.{run_places_start, run_processes, clocks_in}
use Rattle.run_steps.proofs.ListingLaws.{clocks_by_length}
use Rattle.program_graph.proofs.WordLaws.{vars_length, times_length}
use Rattle.explainer.proofs.ReadyLaws.{process_small, one_length, one_known, one_ready}
use Rattle.explainer.proofs.inner.cause.is_ready.Goals as goal
use Rattle.explainer.proofs.inner.cause.is_ready.Goals.{Start}

-- the process is one of the run's
inside : (s : Start) → s.args.p < run_processes s.args.r.now
inside s = omega (arith, s.requires.3, s.requires.4)

pub offset_bounds-r-place : goal.offset_bounds-r-place
offset_bounds-r-place c =
    let small = process_small c.args.t.now c.args.r.now c.requires.0 c.requires.1 c.args.p (inside (goal.at.offset_bounds-r-place c).Start) in
    search rules

pub slice_bounds-ready-end-3 : goal.slice_bounds-ready-end-3
slice_bounds-ready-end-3 c =
    let small = process_small c.args.t.now c.args.r.now c.requires.0 c.requires.1 c.args.p (inside (goal.at.slice_bounds-ready-end-3 c).Start) in
    search rules

pub ready-requires : goal.ready-requires
ready-requires c =
    let p = c.args.p in
    let e : run_places_start + p + 1 - (run_places_start + p) ≡ 1 = omega arith in
    let f : p + 1 - p ≡ 1 = omega arith in
    let one = one_length c.args.t.now c.args.r.now c.requires.0 c.requires.1 p (inside (goal.at.ready-requires c).Start) in
    let ps = c.args.posts.now in
    let post = length-take-le 1 (drop p ps) (rw (length-drop p ps) (omega (arith, c.requires.4))) in (
      c.requires.0,
      vars_length c.args.r.now c.requires.1.words,
      times_length c.args.r.now c.requires.1.words,
      ap length c.requires.2 ∙ clocks_by_length c.args.t.now (clocks_in c.args.r.now) c.args.a
          ∙ times_length c.args.r.now c.requires.1.words,
      rw e (one_known c.args.t.now c.args.r.now c.requires.0 c.requires.1 p (inside (goal.at.ready-requires c).Start)),
      rw (e, f) (omega (arith, one, post)),
    )

pub returns : goal.returns
returns c =
    let p = c.args.p in
    let e : run_places_start + p + 1 - (run_places_start + p) ≡ 1 = omega arith in
    let f : p + 1 - p ≡ 1 = omega arith in
    let given = rw (e, f, c.requires.2) at c.ready.ensures in
    given ∙ one_ready c.args.t.now c.args.r.now c.requires.0 c.requires.1 p (inside (goal.at.returns c).Start) _ _ _ _ _
