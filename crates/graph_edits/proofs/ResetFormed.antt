-- A table that is well formed stays so with a reset more in a plain action.
use Prim.Native.Nat.{ℕ, zero, suc, ◌+◌, ◌-◌, ◌≤◌, ◌<◌}
use mathlib.Core.Path.{◌≡◌, sym, ap, ◌∙◌}
use mathlib.Core.Logic.{◌≢◌}
use mathlib.Core.Bool.{true}
use mathlib.Core.List.{List}
use native.Mathlib.Numerals.{add-one}
use native.Mathlib.Omega.{arith}
use borrow.Author.Tests.{leb-true, ltb-true, lt-ltb, le-leb}
use lib.ListN.{length, get_or, set, length-set}
use lib.Seq.{get_or-set_same, get_or-set_other}
use Rattle.laws.specs.Below.{all_below}
use Rattle.laws.proofs.BelowLaws.{and_first, and_rest, and_both, and_kept, all_at, all_from}
use Rattle.graph_tables.specs.Layout.{clocks_cell, actions_cell, action_width, action_row, resets_cell, effects_cell, reset_cell, var_cell}
use Rattle.graph_tables.specs.Sizes.{action_room, effect_room, reset_room, plain_kind}
use Rattle.graph_tables.specs.Words.{Words, clock_count, action_count, action_kind, reset_count, effect_count, reset_at, effect_length}
use Rattle.graph_tables.specs.Formed.{reset_before, reset_formed, resets_formed, effect_formed, plain_formed, action_formed}
use Rattle.graph_tables.proofs.FormedLaws.{short_effects}
use Rattle.graph_tables.proofs.KeptLaws.{Formed, Grown, ItemsKept, effects_kept, draws_kept}
use Rattle.graph_edits.specs.Rows.{gap_of}
use Rattle.graph_edits.specs.Edits.{reset_place, with_reset}
use Rattle.graph_edits.proofs.ReadLaws.{gap_length, gap_before, gap_moved, gap_after}
use Rattle.graph_edits.proofs.PlaceLaws.{place_bound, place_above, place_below}
use Rattle.graph_edits.proofs.LimitLaws.{sides, ordered}
use Rattle.graph_edits.proofs.GrownFormed.{Around, around_grown, around_formed}

module _ (t : List ℕ) (a clock : ℕ) (words : Words t) (low : a < action_room) (room : reset_count t a < reset_room) where
  abbrev n : ℕ
  n = reset_count t a

  -- its place among the resets, in the table, and where they end
  abbrev p : ℕ
  p = reset_place t a clock

  abbrev lo : ℕ
  lo = reset_cell a p

  abbrev hi : ℕ
  hi = reset_cell a n

  abbrev gap : List ℕ
  gap = gap_of t lo hi 1

  abbrev u : List ℕ
  u = with_reset t a clock

  -- ---- the words of u
  least : p ≤ n
  least = place_bound (reset_at t a) n clock

  some : lo ≤ hi
  some = omega (arith, least)

  fits : hi + 1 ≤ length t
  fits = omega arith

  size : length gap ≡ length t
  size = gap_length t lo hi 1 some fits

  other : (j : ℕ) → (j ≡ lo → ⊥) → (j ≡ resets_cell a → ⊥) → get_or u j 0 ≡ get_or gap j 0
  other j x y = get_or-set_other (set gap lo clock) (resets_cell a) j (n + 1) 0 y ∙ get_or-set_other gap lo j clock 0 x

  pub before : (j : ℕ) → j < lo → (j ≡ resets_cell a → ⊥) → get_or u j 0 ≡ get_or t j 0
  before j l x = other j (λ e. omega arith) x ∙ gap_before t lo hi 1 some fits j (omega arith)

  pub after : (j : ℕ) → var_cell a 0 ≤ j → get_or u j 0 ≡ get_or t j 0
  after j l = other j (λ e. omega (arith, least)) (λ e. omega arith) ∙ gap_after t lo hi 1 some fits j (omega arith)

  pub count : reset_count u a ≡ n + 1
  count = get_or-set_same (set gap lo clock) (resets_cell a) (n + 1) 0 (simp length-set (omega (arith, size)))

  pub here : reset_at u a p ≡ clock
  here =
      get_or-set_other (set gap lo clock) (resets_cell a) lo (n + 1) 0 (λ e. omega arith)
      ∙ get_or-set_same gap lo clock 0 (omega (arith, size, least))

  pub above : (i : ℕ) → p ≤ i → i < n → reset_at u a (i + 1) ≡ reset_at t a i
  above i l m =
      let e : reset_cell a (i + 1) ≡ reset_cell a i + 1 = omega arith in
      rw e (other (reset_cell a i + 1) (λ f. omega arith) (λ f. omega arith)
      ∙ gap_moved t lo hi 1 some fits (reset_cell a i) (omega arith) (omega arith))

  -- ---- its parts
  -- a word before the action's resets
  first : (j : ℕ) → j < resets_cell a → get_or u j 0 ≡ get_or t j 0
  first j l = before j (omega arith) (λ e. omega arith)

  -- a word that action a has not
  elsewhere : (j : ℕ) → ((i : ℕ) → i < action_width → j ≢ action_row a + i) → get_or u j 0 ≡ get_or t j 0
  elsewhere j out =
      sides j (resets_cell a)
      (first j)
      (λ e. absurd (out 1 (omega arith) (omega arith)))
      (λ m.
      sides j (var_cell a 0)
      (λ k. absurd (out (j - (action_row a)) (omega arith) (omega arith)))
      (λ e. after j (omega arith))
      (λ k. after j (omega arith)))

  pub around : action_count t ≤ action_room → Around t u a
  around few =
      let same : action_count u ≡ action_count t = first actions_cell (omega arith) in
      record {
        words = simp length-set (size ∙ words);
        more = omega arith;
        few = omega arith;
        others = λ b l other. omega arith;
        row = λ j l three out. elsewhere j out;
        items = λ b e l other j k. after _ (omega arith);
      }

  module _ (formed : Formed t) (known : a < action_count t) (plain : action_kind t a ≡ plain_kind) (timed : clock < clock_count t) where
    grown : Grown t u
    grown = around_grown t u a (omega arith) formed (around formed.counts.actions)

    was_plain : plain_formed t a ≡ true
    unfolding action_formed
    was_plain = rw plain at (formed.action a known)

    were_resets : resets_formed t a ≡ true
    unfolding plain_formed
    were_resets = and_first _ _ was_plain

    resets : resets_formed u a ≡ true
    unfolding resets_formed reset_formed
    resets = rw count (and_both (le-leb (n + 1) reset_room (omega arith)) (all_from (reset_formed u a) (n + 1) each))
      where
        old : (i : ℕ) → i < n → reset_formed t a i ≡ true
        old i = all_at (reset_formed t a) n i (and_rest _ _ were_resets)

        old_order : (i : ℕ) → i + 1 < n → reset_at t a i ≤ reset_at t a (i + 1)
        old_order i l = rw (add-one i) (leb-true _ _ (and_rest _ _ (old (suc i) (omega arith))))

        in_time : (i : ℕ) → i < n + 1 → reset_at u a i < clock_count t
        in_time i l =
            sides i p
            (λ m. rw (before (reset_cell a i) (omega arith) (λ e. omega arith)) (ltb-true _ _
            (and_first _ _ (old i (omega (arith, least))))))
            (λ e. rw (e, here) timed)
            (λ m.
            let e : i ≡ i - 1 + 1 = omega arith in
            rw (ap (reset_at u a) e ∙ above (i - 1) (omega arith) (omega arith)) (ltb-true _ _ (and_first _ _ (old (i - 1) (omega arith)))))

        order : (i : ℕ) → i < n + 1 → reset_before u a i ≤ reset_at u a i
        order zero l = omega arith
        order (suc i) l =
            rw (sym (add-one i))
            (ordered (reset_at t a) (reset_at u a) n clock p least (place_above (reset_at t a) n clock) (place_below (reset_at t a) n clock)
            (λ j m. before _ (omega arith) (λ e. omega arith)) here above old_order i (omega arith))

        each : (i : ℕ) → i < n + 1 → reset_formed u a i ≡ true
        each i l = rw (first clocks_cell (omega arith)) (and_both (lt-ltb _ _ (in_time i l)) (le-leb _ _ (order i l)))

    still_plain : plain_formed u a ≡ true
    unfolding plain_formed
    still_plain =
        let m = effect_count t a in
        let few : m ≤ effect_room = leb-true _ _ (and_first _ _ (and_rest _ _ was_plain)) in
        let all : all_below m (effect_formed t a) ≡ true = and_first _ _ (and_rest _ _ (and_rest _ _ was_plain)) in
        let same : (e : ℕ) → e < m → effect_length u a e ≡ effect_length t a e = λ e l. after _ (omega arith) in
        let items : (e : ℕ) → e < m → ItemsKept t u a e = λ e l j k. after _ (omega arith) in
        rw (
          before (effects_cell a) (omega arith) (λ e. omega arith),
          draws_kept grown a (omega arith) m few same items
              (short_effects t a m all),
        )
        (and_kept (λ r. resets)
        (and_kept (λ r. r)
        (and_kept (effects_kept grown a (omega arith) m few same items (λ e l. after _ (omega arith))) (λ r. r))) was_plain)

    still_formed : action_formed u a ≡ true
    unfolding action_formed
    still_formed = rw (first (action_row a) (omega arith), plain) still_plain

    whole : Formed u
    whole = around_formed t u a low formed (around formed.counts.actions) still_formed

pub reset_formed_lem : (t : List ℕ) (a clock : ℕ) → Formed t → a < action_count t → action_kind t a ≡ plain_kind → reset_count t a < reset_room
    → clock < clock_count t
    → Formed (with_reset t a clock)
reset_formed_lem t a clock formed known plain room timed = whole t a clock formed.words (omega arith) room formed known plain timed
