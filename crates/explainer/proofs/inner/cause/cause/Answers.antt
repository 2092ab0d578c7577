use Prim.Native.Nat.{ℕ, ◌+◌, ◌<◌}
use mathlib.Core.Path.{◌≡◌, refl, sym, ap, ◌∙◌}
use mathlib.Core.List.{List}
use native.Mathlib.Omega.{arith}
use lib.ListN.{length, get_or}
use borrow.Author.Rules.{rules}
use Rattle.graph_tables.specs.Sizes.{process_room, location_room}
use Rattle.graph_tables.specs.RunWords.{run_places_start, run_processes, clocks_in}
use Rattle.run_steps.specs.Listing.{clocks_by}
use Rattle.run_steps.proofs.KeyLaws.{asked}
use Rattle.run_steps.proofs.ListingLaws.{clocks_by_length}
use Rattle.program_graph.specs.Inner.{run_at}
use Rattle.program_graph.proofs.LeaveLaws.{few_places}
use Rattle.program_graph.proofs.WordLaws.{times_length}
use Rattle.explainer.specs.Cause.{cause_of}
use Rattle.explainer.proofs.ReadyLaws.{place_here, place_known_lem}
use Rattle.explainer.proofs.CauseTheorems.{process_there}
use Rattle.explainer.proofs.inner.cause.cause.Goals as goal
use Rattle.explainer.proofs.inner.cause.cause.Goals.{After-reset_by, After-unready-p}

pub copy_from_slice-requires : goal.copy_from_slice-requires
copy_from_slice-requires c = sym (times_length c.args.r.now c.requires.1.words)

pub reset_by-requires : goal.reset_by-requires
reset_by-requires c =
    (c.requires.0, rw c.copy_from_slice.ensures.after (times_length c.args.r.now c.requires.1.words))

-- the clocks after
moved : (c : After-reset_by) → c.reset_by.new.clocks ≡ clocks_by c.args.t.now c.args.a (clocks_in c.args.r.now)
moved c =
    c.reset_by.ensures ∙ ap (λ (x : List ℕ). clocks_by c.args.t.now c.args.a x) c.copy_from_slice.ensures.after

pub unready-p-requires : goal.unready-p-requires
unready-p-requires c = (c.requires.0, c.requires.1, moved (goal.at.unready-p-requires c).After-reset_by, c.requires.2.one_each)

-- the process is one of the run's
here : (c : After-unready-p) → c.unready-p.result < run_processes c.args.r.now
here c =
    rw c.unready-p.ensures (process_there c.args.t.now (run_at c.args.r.now) c.args.a c.args.posts.now c.requires.2)

small : (c : After-unready-p) → c.unready-p.result < process_room
small c =
    omega (arith, here c, few_places c.args.t.now c.args.r.now c.requires.0 c.requires.1 (run_processes c.args.r.now) refl)

pub overflow_add-p : goal.overflow_add-p
overflow_add-p c = omega (arith, small (goal.at.overflow_add-p c).After-unready-p)

pub bounds-r-p : goal.bounds-r-p
bounds-r-p c = omega (arith, small (goal.at.bounds-r-p c).After-unready-p, c.requires.1.words)

pub bounds-posts-p : goal.bounds-posts-p
bounds-posts-p c = omega (arith, here (goal.at.bounds-posts-p c).After-unready-p, c.requires.2.one_each)

-- its post is a location
post_small : (c : After-unready-p) → get_or c.args.posts.now c.unready-p.result 0 < location_room
post_small c =
    omega (arith, c.requires.2.known c.unready-p.result (omega (arith, here c, c.requires.2.one_each)), c.requires.0.counts.locations)

pub key_with-key-requires : goal.key_with-key-requires
key_with-key-requires c =
    let p = c.unready-p.result in
    let at = place_here c.args.t.now c.args.r.now c.requires.0 c.requires.1 p (here (goal.at.key_with-key-requires c).After-unready-p) in
    let known = place_known_lem c.args.t.now c.args.r.now c.requires.0 c.requires.1 p (here (goal.at.key_with-key-requires c).After-unready-p) in
    (omega (arith, at, known, c.requires.0.counts.locations), post_small (goal.at.key_with-key-requires c).After-unready-p)

pub first-requires : goal.first-requires
first-requires c = c.requires.0

pub cause_from-requires : goal.cause_from-requires
cause_from-requires c = (
  c.requires.0,
  c.requires.1.words,
  ap length (moved (goal.at.cause_from-requires c).After-reset_by) ∙ clocks_by_length c.args.t.now (clocks_in c.args.r.now) c.args.a
      ∙ times_length c.args.r.now c.requires.1.words,
)

pub returns : goal.returns
unfolding cause_of
returns c =
    let p = c.unready-p.result in
    let at = place_here c.args.t.now c.args.r.now c.requires.0 c.requires.1 p (here (goal.at.returns c).After-unready-p) in
    let key = asked c.key_with-key.result (get_or c.args.r.now (run_places_start + p) 0) c.args.a (get_or c.args.posts.now p 0)
    c.key_with-key.ensures (omega arith) (post_small (goal.at.returns c).After-unready-p) in
    c.cause_from.ensures
    ∙ rw (c.first.ensures, key.pre, key.action, key.post, moved (goal.at.returns c).After-reset_by, at, c.unready-p.ensures)

pub offset_bounds-r-p : goal.offset_bounds-r-p
offset_bounds-r-p c =
    let l = small (goal.at.offset_bounds-r-p c).After-unready-p in search rules

pub offset_bounds-posts-p : goal.offset_bounds-posts-p
offset_bounds-posts-p c =
    let l = small (goal.at.offset_bounds-posts-p c).After-unready-p in search rules
