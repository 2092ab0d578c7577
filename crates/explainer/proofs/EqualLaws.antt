-- The test of the lent tables says exactly that they are the built ones, and so what a part of them has.
use Prim.Native.Nat.{ℕ, zero, suc, ◌+◌, ◌*◌, ◌<◌, ◌≤◌}
use mathlib.Core.Path.{◌≡◌, sym, ap, ◌∙◌}
use mathlib.Core.Bool.{true}
use mathlib.Core.List.{List}
use mathlib.Core.Logic.{◌↔◌}
use native.Mathlib.Omega.{arith}
use borrow.Author.Tests.{eqb-true, eq-eqb}
use lib.ListN.{length, get_or, drop}
use lib.Seq.{get_or-take, get_or-drop, ext_get_or}
use Rattle.laws.specs.Below.{◌and◌, all_below}
use Rattle.laws.proofs.BelowLaws.{and_first, and_rest, and_both, all_at, all_from}
use Rattle.graph_tables.specs.Sizes.{transition_room, group_room}
use Rattle.graph_tables.specs.Layout.{limit_width, group_start}
use Rattle.graph_tables.specs.Words.{location_count, transition_count, invariant_group}
use Rattle.graph_tables.specs.Sound.{Sound, LimitsSound}
use Rattle.run_steps.proofs.LimitLaws.{limits_of_transition, invariants_of_location}
use Rattle.system_tables.specs.Sizes.{graph_room}
use Rattle.system_tables.specs.Words.{graph_part}
use Rattle.system_tables.specs.Sound.{SystemSound}
use Rattle.explainer.specs.Layout.{all_guards, all_limits, group_at, limit_at}
use Rattle.explainer.specs.Same.{part, guard_same, limits_same, transition_same, location_same, graph_same, tables_same}
use Rattle.explainer.specs.Facts.{GraphEqual, Equal, limit_words_of}
use Rattle.explainer.proofs.SameLaws.{part_length, guard_lent, guard_built, group_lent, group_built, same_lists, lists_same}

-- ---- of one graph
module _ (t guards limits : List ℕ) (sound : Sound t) (eg : length guards ≡ all_guards) (el : length limits ≡ all_limits) (g : ℕ)
    (l : g < graph_room) where
  group_same : (group n : ℕ) → group < group_room → LimitsSound t group n → limits_same t limits g group n ≡ true
      → part limits (group_at g group) (limit_width * n) ≡ part t (group_start group) (limit_width * n)
  unfolding limits_same
  group_same group n m s h =
      same_lists _ _ (group_lent limits g group n el l m s.few ∙ sym (group_built t group n sound.words m s.few)) h

  graph_equal : all_below (transition_count t) (transition_same t guards limits g) ≡ true
      → all_below (location_count t) (location_same t limits g) ≡ true → GraphEqual t guards limits g
  unfolding transition_same location_same guard_same
  graph_equal h k =
      record {
        guard = λ i m.
            let few : i < transition_room = omega (arith, sound.counts.transitions) in
            let short = (sound.transition i m).guard.short in
            same_lists _ _ (guard_lent guards g i _ eg l few short ∙ sym (guard_built t i _ sound.words few short))
            (and_first _ _ (all_at (transition_same t guards limits g) _ i h m));
        limit = λ i m.
            let s = limits_of_transition sound m in
            group_same i _ s.1 s.2 (and_rest _ _ (all_at (transition_same t guards limits g) _ i h m));
        invariant = λ i m.
            let s = invariants_of_location sound m in
            group_same (invariant_group i) _ s.1 s.2 (all_at (location_same t limits g) _ i k m);
      }

  equal_graph : GraphEqual t guards limits g
      → (all_below (transition_count t) (transition_same t guards limits g) and all_below (location_count t) (location_same t limits g)) ≡ true
  unfolding transition_same location_same guard_same limits_same
  equal_graph e =
      and_both
      (all_from (transition_same t guards limits g) _ (λ i m. and_both (lists_same _ _ (e.guard i m)) (lists_same _ _ (e.limit i m))))
      (all_from (location_same t limits g) _ (λ i m. lists_same _ _ (e.invariant i m)))

-- ---- of a system: the tables pass exactly when they are the built ones
pub tables_exactly : (t guards limits : List ℕ) → SystemSound t → (tables_same t guards limits ≡ true) ↔ Equal t guards limits
unfolding tables_same graph_same
tables_exactly t guards limits sound = (
  λ h.
      let eg : length guards ≡ all_guards = eqb-true _ _ (and_first _ _ h) in
      let el : length limits ≡ all_limits = eqb-true _ _ (and_first _ _ (and_rest _ _ h)) in
      record {
        guards_whole = eg;
        limits_whole = el;
        graph = λ g m.
            let same = all_at (graph_same t guards limits) _ g (and_rest _ _ (and_rest _ _ h)) m in
            graph_equal (graph_part t g) guards limits (sound.graph g m) eg el g (omega (arith, sound.graphs))
            (and_first _ _ same) (and_rest _ _ same);
      },
  λ e.
      and_both (eq-eqb _ _ e.guards_whole)
      (and_both (eq-eqb _ _ e.limits_whole)
      (all_from (graph_same t guards limits) _
      (λ g m.
      equal_graph (graph_part t g) guards limits (sound.graph g m) e.guards_whole e.limits_whole g (omega (arith, sound.graphs)) (e.graph g m)))),
)

-- ---- a limit of a group that is the built one
get_d_part : (xs : List ℕ) (from n i : ℕ) → i < n → get_or (part xs from n) i 0 ≡ get_or xs (from + i) 0
get_d_part xs from n i l = get_or-take n (drop from xs) i 0 l ∙ get_or-drop from xs i 0

pub limit_words_lem : (t limits : List ℕ) (g group n i : ℕ) → length limits ≡ all_limits → g < graph_room → group < group_room → n ≤ 8 → i < n
    → part limits (group_at g group) (limit_width * n) ≡ part t (group_start group) (limit_width * n)
    → part limits (limit_at g group i) limit_width ≡ limit_words_of t group i
limit_words_lem t limits g group n i el l m few h e =
    ext_get_or 0 _ _ (part_length limits (limit_at g group i) limit_width (omega arith)) (λ j k. at j (omega (arith, part_length limits (limit_at g group i) limit_width (omega arith))))
  where
    same : (j : ℕ) → j < limit_width → get_or limits (limit_at g group i + j) 0 ≡ get_or t (group_start group + limit_width * i + j) 0
    same j k =
        let q : limit_width * i + j < limit_width * n = omega arith in
        let a : group_at g group + (limit_width * i + j) ≡ limit_at g group i + j = omega arith in
        let b : group_start group + (limit_width * i + j) ≡ group_start group + limit_width * i + j = omega arith in
        sym (ap (λ (x : ℕ). get_or limits x 0) a) ∙ sym (get_d_part limits (group_at g group) (limit_width * n) (limit_width * i + j) q)
        ∙ ap (λ (xs : List ℕ). get_or xs (limit_width * i + j) 0) e
        ∙ get_d_part t (group_start group) (limit_width * n) (limit_width * i + j) q
        ∙ ap (λ (x : ℕ). get_or t x 0) b

    at : (j : ℕ) → j < limit_width → get_or (part limits (limit_at g group i) limit_width) j 0 ≡ get_or (limit_words_of t group i) j 0
    at zero k =
        let z : group_start group + limit_width * i + 0 ≡ group_start group + limit_width * i = omega arith in
        get_d_part limits (limit_at g group i) limit_width 0 k ∙ same 0 k ∙ ap (λ (x : ℕ). get_or t x 0) z
    at (suc zero) k = get_d_part limits (limit_at g group i) limit_width 1 k ∙ same 1 k
    at (suc (suc zero)) k = get_d_part limits (limit_at g group i) limit_width 2 k ∙ same 2 k
    at (suc (suc (suc j))) k = absurd (omega arith)
