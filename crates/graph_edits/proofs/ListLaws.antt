-- The parts of a table as lists after an edit: what is put in stands in its order, and all else is as it was.
use Prim.Native.Nat.{ℕ, zero, suc, ◌+◌, ◌<◌, ◌≤◌}
use mathlib.Core.Path.{◌≡◌, refl, sym, ap, subst, ◌∙◌}
use mathlib.Core.Logic.{◌≢◌}
use mathlib.Core.Bool.{Bool, true, false, cond}
use mathlib.Core.List.{List, [], ◌∷◌, ◌++◌}
use native.Mathlib.Numerals.{add-one}
use native.Mathlib.Nat.{add-zero}
use native.Mathlib.Omega.{arith}
use borrow.Author.Tests.{lt-ltb, le-ltb}
use lib.ListN.{length, get_or}
use Rattle.graph_tables.specs.Layout.{actions_cell, transitions_cell, limits_start, effects_start, transition_width, limit_width, group_width}
use Rattle.graph_tables.specs.Layout.{var_cell, length_cell, transition_row, group_start, limit_row, lower_cell, upper_cell, guard_slot, effect_slot}
use Rattle.graph_tables.specs.Sizes.{location_room, action_room, transition_room, limit_room, group_room, effect_room, reset_room, message_room}
use Rattle.graph_tables.specs.Sizes.{item_room, send_kind, receive_kind}
use Rattle.graph_tables.specs.declared.handed.Limits.{Limits}
use Rattle.graph_tables.specs.declared.handed.Vars.{Vars}
use Rattle.graph_tables.specs.Handed.{handed_clock, handed_range, handed_var}
use Rattle.graph_tables.specs.Words.{Words, location_count, action_count, transition_count, reset_count, effect_count, reset_at, effect_var}
use Rattle.graph_tables.specs.Words.{effect_length, effect_items, key_of, guard_length, limit_count, pre_of, action_of, post_of, invariant_group}
use Rattle.graph_tables.specs.Words.{bound_word}
use Rattle.graph_tables.specs.Sound.{TransitionSound}
use Rattle.graph_tables.proofs.SoundLaws.{sound}
use Rattle.graph_tables.proofs.KeptLaws.{Formed, together, Moved, GroupMoved, items_moved, clock_moved, lower_moved, upper_moved}
use Rattle.graph_edits.specs.Rows.{place_of, gap_of}
use Rattle.graph_edits.specs.Edits.{limit_place, action_put, with_limits, with_location, with_reset, with_effect, with_expressions, with_send}
use Rattle.graph_edits.specs.Edits.{with_targets, with_receive, with_row, with_group, transition_place, with_transition}
use Rattle.graph_edits.specs.Lists.{list_of, insert_sorted, changed_at, StoredLimit, limit_at, limits_of, invariants_of, handed_limit}
use Rattle.graph_edits.specs.Lists.{sorted_limits, resets_of, effect_at, effects_of, expressions_of, targets_of, StoredTransition, key_in}
use Rattle.graph_edits.specs.Lists.{transition_of, transitions_of}
use Rattle.graph_edits.proofs.PlaceLaws.{place_bound, place_above, place_below, place_same}
use Rattle.graph_edits.proofs.KeyLaws.{key_back}
use Rattle.graph_edits.proofs.LimitLaws.{Put, bound_back, next}
use Rattle.graph_edits.proofs.ResetFormed.{before as reset-before, count as reset-count, here as reset-here, above as reset-above}
use Rattle.graph_edits.proofs.EffectFormed.{row as effect-row, items as effect-other, all_words as effect_words}
use Rattle.graph_edits.proofs.EffectFormed.{count as effect-count, variable as effect-var, same_items as effect-items}
use Rattle.graph_edits.proofs.ExpressionLaws.{apart_row, Message, Short, message, targets_words, targets_other, targets_var}
use Rattle.graph_edits.proofs.ActionFormed.{put_other as action-other, put_words as action_words, put_row as action-row}
use Rattle.graph_edits.proofs.TransitionFormed.{opened_words, rowed_words, put_words, put_count, limits as put-others, put_same}
use Rattle.graph_edits.proofs.TransitionFormed.{put_key, put_limits, put_items, row_moved, limits_moved, items_moved as guards-moved}
use Rattle.graph_edits.proofs.LocationFormed.{put_group as location-group, put_number as location-number}

-- ---- lists of rows
module _ {A : Type 0} where
  -- rows that agree are one list
  pub list_same : (f h : ℕ → A) (n : ℕ) → ((i : ℕ) → i < n → h i ≡ f i) → list_of h n ≡ list_of f n
  unfolding list_of
  list_same f h zero e = refl
  list_same f h (suc n) e =
      rw (e zero (omega arith), list_same (λ (i : ℕ). f (suc i)) (λ (i : ℕ). h (suc i)) n (λ i l. e (suc i) (omega arith)))

  -- a row more at the end
  pub list_more : (f h : ℕ → A) (n : ℕ) (x : A) → ((i : ℕ) → i < n → h i ≡ f i) → h n ≡ x → list_of h (n + 1) ≡ list_of f n ++ (x ∷ [])
  unfolding list_of
  list_more f h n x e here = rw (add-one n) (by f h n e here)
    where
      by : (f h : ℕ → A) (n : ℕ) → ((i : ℕ) → i < n → h i ≡ f i) → h n ≡ x → list_of h (suc n) ≡ list_of f n ++ (x ∷ [])
      by f h zero e here = rw here
      by f h (suc n) e here =
          rw (e zero (omega arith), by (λ (i : ℕ). f (suc i)) (λ (i : ℕ). h (suc i)) n (λ i l. e (suc i) (omega arith)) here)

  -- a row more at the end, or none more
  pub list_grown : (f h : ℕ → A) (n m : ℕ) (more : Bool) → m ≡ cond more (n + 1) n → ((i : ℕ) → i < n → h i ≡ f i)
      → list_of h m ≡ cond more (list_of f n ++ (h n ∷ [])) (list_of f n)
  list_grown f h n m true count e = ap (list_of h) count ∙ list_more f h n (h n) e refl
  list_grown f h n m false count e = ap (list_of h) count ∙ list_same f h n e

  -- row a alone is another one
  pub list_changed : (f h : ℕ → A) (n a : ℕ) (g : A → A) → a < n → ((i : ℕ) → i < n → i ≢ a → h i ≡ f i) → h a ≡ g (f a)
      → list_of h n ≡ changed_at a g (list_of f n)
  unfolding list_of changed_at
  list_changed f h zero a g l e here = absurd (omega arith)
  list_changed f h (suc n) zero g l e here =
      rw (here, list_same (λ (i : ℕ). f (suc i)) (λ (i : ℕ). h (suc i)) n (λ i m. e (suc i) (omega arith) (omega arith)))
  list_changed f h (suc n) (suc a) g l e here =
      rw (
        e zero (omega arith) (omega arith),
        list_changed (λ (i : ℕ). f (suc i)) (λ (i : ℕ). h (suc i)) n a g (omega arith)
            (λ i m other. e (suc i) (omega arith) (omega arith)) here,
      )

  -- so many rows
  pub list_length : (f : ℕ → A) (n : ℕ) → length (list_of f n) ≡ n
  unfolding list_of
  list_length f zero = refl
  list_length f (suc n) = ap suc (list_length (λ (i : ℕ). f (suc i)) n)

  -- a row more before place p, where the numbers before p are at most its own and the one at p is greater
  put_list : (number : A → ℕ) (f h : ℕ → A) (n p : ℕ) (x : A) → p ≤ n → (p < n → number x < number (f p))
      → ((i : ℕ) → i < p → number (f i) ≤ number x)
      → ((i : ℕ) → i < p → h i ≡ f i) → h p ≡ x → ((i : ℕ) → p ≤ i → i < n → h (suc i) ≡ f i)
      → list_of h (suc n) ≡ insert_sorted number x (list_of f n)
  unfolding list_of insert_sorted
  put_list number f h zero zero x bound above below before here behind = rw here
  put_list number f h zero (suc p) x bound above below before here behind = absurd (omega arith)
  put_list number f h (suc n) zero x bound above below before here behind =
      rw (
        lt-ltb (number x) (number (f zero)) (above (omega arith)),
        here,
        behind zero (omega arith) (omega arith),
        list_same (λ (i : ℕ). f (suc i)) (λ (i : ℕ). h (suc (suc i))) n (λ i l. behind (suc i) (omega arith) (omega arith)),
      )
  put_list number f h (suc n) (suc p) x bound above below before here behind =
      rw (
        le-ltb (number x) (number (f zero)) (below zero (omega arith)),
        before zero (omega arith),
        put_list number (λ (i : ℕ). f (suc i)) (λ (i : ℕ). h (suc i)) n p x (omega arith) (λ l. above (omega arith))
            (λ i l. below (suc i) (omega arith))
            (λ i l. before (suc i) (omega arith)) here (λ i l m. behind (suc i) (omega arith) (omega arith)),
      )

  -- a row more at its place
  pub inserted_list : (number : A → ℕ) (f h : ℕ → A) (n : ℕ) (x : A)
      → ((i : ℕ) → i < place_of (λ (j : ℕ). number (f j)) n (number x) → h i ≡ f i)
      → h (place_of (λ (j : ℕ). number (f j)) n (number x)) ≡ x
      → ((i : ℕ) → place_of (λ (j : ℕ). number (f j)) n (number x) ≤ i → i < n → h (i + 1) ≡ f i)
      → list_of h (n + 1) ≡ insert_sorted number x (list_of f n)
  inserted_list number f h n x before here behind =
      rw (add-one n)
      (put_list number f h n (place_of (λ (j : ℕ). number (f j)) n (number x)) x (place_bound _ n _) (place_above _ n _) (place_below _ n _)
      before here (λ i l m. ap h (sym (add-one i)) ∙ behind i l m))

-- ---- limits
-- group g of t is group h of u
pub group_list : (t u : List ℕ) (g h n : ℕ) → GroupMoved t u g h → n ≤ limit_room → limits_of u h n ≡ limits_of t g n
group_list t u g h n moved few =
    list_same (limit_at t g) (limit_at u h) n
    (λ i l.
    let room : i < limit_room = omega arith in
    rw (clock_moved t u g h moved i room, lower_moved t u g h moved i room, upper_moved t u g h moved i room))

module _ (t : List ℕ) (g : ℕ) (l : Limits) (words : Words t) (known : g < group_room) where
  pub limits_list : (n : ℕ) → n ≤ limit_room → limits_of (with_limits t g l n) g n ≡ sorted_limits l n
  unfolding list_of sorted_limits
  limits_list zero few = refl
  limits_list (suc n) few =
      ap (limits_of u g) (sym (add-one n))
      ∙ inserted_list (λ (x : StoredLimit). x.clock) (limit_at v g) (limit_at u g) n (handed_limit l n) before here behind
      ∙ ap (insert_sorted (λ (x : StoredLimit). x.clock) (handed_limit l n)) (limits_list n (omega arith))
    where
      v : List ℕ
      v = with_limits t g l n

      u : List ℕ
      u = with_limits t g l (suc n)

      p : ℕ
      p = limit_place v g n (handed_clock l n)

      new : Put v u (limit_row g p) (limit_row g n) (handed_clock l n) (bound_word (handed_range l n).lower)
          (bound_word (handed_range l n).upper)
      new = next t g l words known n few

      before : (i : ℕ) → i < p → limit_at u g i ≡ limit_at v g i
      before i m =
          rw (
            new.before (limit_row g i) (omega arith),
            new.before (lower_cell g i) (omega arith),
            new.before (upper_cell g i)
                (omega arith),
          )

      here : limit_at u g p ≡ handed_limit l n
      here =
          rw (new.first, new.second, new.third, bound_back (handed_range l n).lower, bound_back (handed_range l n).upper)

      behind : (i : ℕ) → p ≤ i → i < n → limit_at u g (i + 1) ≡ limit_at v g i
      behind i m k =
          let none : limit_row g (i + 1) ≡ limit_row g i + limit_width = omega arith in
          let one : lower_cell g (i + 1) ≡ lower_cell g i + limit_width = omega arith in
          let two : upper_cell g (i + 1) ≡ upper_cell g i + limit_width = omega arith in
          rw (
            one,
            two,
            none,
            new.moved (limit_row g i) (omega arith) (omega arith),
            new.moved (lower_cell g i) (omega arith) (omega arith),
            new.moved (upper_cell g i) (omega arith) (omega arith),
          )

-- ---- actions
module _ (t : List ℕ) (a clock : ℕ) (words : Words t) (low : a < action_room) (room : reset_count t a < reset_room) where
  pub resets_list : resets_of (with_reset t a clock) a ≡ insert_sorted (λ (c : ℕ). c) clock (resets_of t a)
  resets_list =
      let u = with_reset t a clock in
      ap (list_of (reset_at u a)) (reset-count t a clock words low room)
      ∙ inserted_list (λ (c : ℕ). c) (reset_at t a) (reset_at u a) (reset_count t a) clock
      (λ i l. reset-before t a clock words low room _ (omega arith) (λ e. omega arith))
      (reset-here t a clock words low room)
      (reset-above t a clock words low room)

module _ (t : List ℕ) (a v : ℕ) (ws : List ℕ) (words : Words t) (low : a < action_room) (room : effect_count t a < effect_room)
    (short : length ws ≤ item_room) where
  pub effects_list : ((e : ℕ) → e < effect_count t a → effect_length t a e ≤ item_room)
      → effects_of (with_effect t a v ws) a ≡ effects_of t a ++ (record { var = v; items = ws } ∷ [])
  effects_list few =
      let u = with_effect t a v ws in
      ap (list_of (effect_at u a)) (effect-count t a v ws words low room short)
      ∙ list_more (effect_at t a) (effect_at u a) (effect_count t a) (record { var = v; items = ws }) old
      (rw (effect-var t a v ws words low room short, effect-items t a v ws words low room short))
    where
      old : (e : ℕ) → e < effect_count t a → effect_at (with_effect t a v ws) a e ≡ effect_at t a e
      old e l =
          let at = effect_slot a e in
          rw (
            effect-row t a v ws words low room short (var_cell a e) (omega arith),
            effect-row t a v ws words low room short (length_cell a e) (omega arith),
            items_moved t (with_effect t a v ws) at at item_room (effect_length t a e) (few e l) (omega arith)
                (omega (arith, effect_words t a v ws words low room short))
                (effect-other t a v ws words low room short a e (omega arith)),
          )

-- the expressions of a send, and the variables of a receive, as they are handed
pub send_list : (t : List ℕ) (m : ℕ → List ℕ) (count : ℕ) → Words t → action_count t < action_room → count ≤ message_room → Short m count
    → expressions_of (with_send t m count) (action_count t) ≡ list_of m count
send_list t m count words low few short =
    let at : action_count w ≡ a = so.other actions_cell (λ i l. apart_row a i actions_cell (omega arith) (omega arith)) in
    subst (λ (n : ℕ). expressions_of (action_put w n send_kind count) a ≡ list_of m count) (sym at)
    (ap (list_of (effect_items u a)) (action-row w a send_kind count so.words low).2 ∙ list_same m (effect_items u a) count each)
  where
    a : ℕ
    a = action_count t

    w : List ℕ
    w = with_expressions t a m count

    u : List ℕ
    u = action_put w a send_kind count

    so : Message t a m count w
    so = message t a m count words low few short

    each : (i : ℕ) → i < count → effect_items u a i ≡ m i
    each i l =
        let place = effect_slot a i in
        rw (action-other w a send_kind count (length_cell a i) (omega arith))
        (items_moved w u place place item_room (effect_length w a i) (rw (so.long i l) (short i l)) (omega (arith, so.words))
        (omega (arith, action_words w a send_kind count so.words low))
        (λ j h. action-other w a send_kind count (place + j) (omega arith)))
        ∙ so.items i l

pub receive_list : (t : List ℕ) (v : Vars) → Words t → action_count t < action_room → v.count ≤ message_room
    → targets_of (with_receive t v) (action_count t) ≡ list_of (handed_var v) v.count
receive_list t v words low few =
    let at : action_count w ≡ a = targets_other t a v v.count actions_cell (omega arith) in
    subst (λ (n : ℕ). targets_of (action_put w n receive_kind v.count) a ≡ list_of (handed_var v) v.count) (sym at)
    (ap (list_of (effect_var u a)) (action-row w a receive_kind v.count (targets_words t a v v.count words) low).2
    ∙ list_same (handed_var v) (effect_var u a) v.count
    (λ i l. action-other w a receive_kind v.count (var_cell a i) (omega arith) ∙ targets_var t a v v.count words low few i l))
  where
    a : ℕ
    a = action_count t

    w : List ℕ
    w = with_targets t a v v.count

    u : List ℕ
    u = action_put w a receive_kind v.count

-- ---- transitions
-- transition k of t is transition m of u
pub transition_same_lem : (t u : List ℕ) (k m : ℕ) → Formed t → Words u → k < transition_count t → m < transition_room
    → Moved t u (transition_row k) (transition_row m) transition_width → GroupMoved t u k m → Moved t u (guard_slot k) (guard_slot m) item_room
    → transition_of u m ≡ transition_of t k
transition_same_lem t u k m f words known room row group items =
    let old : TransitionSound t k = (sound t true (together t f)).transition k known in
    let key : key_of u m ≡ key_of t k = simp add-zero at (row 0 (omega arith)) in
    let long : guard_length u m ≡ guard_length t k = row 1 (omega arith) in
    let count : limit_count u m ≡ limit_count t k = row 2 (omega arith) in
    rw (
      key,
      long,
      count,
      items_moved t u (guard_slot k) (guard_slot m) item_room (guard_length t k) old.guard.short (omega arith) (omega arith) items,
      group_list t u k m (limit_count t k) group old.limits.few,
    )

module _ (t : List ℕ) (key : ℕ) (ws : List ℕ) (l : Limits) (f : Formed t) (room : transition_count t < transition_room)
    (short : length ws ≤ item_room) (few : l.count ≤ limit_room) where
  abbrev new_transition : StoredTransition
  new_transition = record { pre = pre_of key; action = action_of key; post = post_of key; guard = ws; limits = sorted_limits l l.count }

  pub transitions_list : transitions_of (with_transition t key ws l) ≡ insert_sorted key_in new_transition (transitions_of t)
  unfolding with_group
  transitions_list =
      ap (list_of (transition_of u)) (put_count t p n key ws l f refl least room few short)
      ∙ inserted_list key_in (transition_of t) (transition_of u) n new_transition
      (λ k h. before k (omega (arith, place)))
      (ap (transition_of u) place ∙ here)
      (λ k h m. behind k (omega (arith, place)) m)
    where
      n : ℕ
      n = transition_count t

      p : ℕ
      p = transition_place t key

      u : List ℕ
      u = with_transition t key ws l

      least : p ≤ n
      least = place_bound (key_of t) n key

      -- the place among the transitions is that among their keys
      place : place_of (λ (k : ℕ). key_in (transition_of t k)) n (key_in new_transition) ≡ p
      place = rw (key_back key) (place_same (λ (k : ℕ). key_in (transition_of t k)) (key_of t) n key (λ k m. key_back (key_of t k)))

      words : Words u
      words = put_words t p n key ws l f refl least room few short

      same : (j : ℕ)
          → (j ≡ transitions_cell → ⊥) × (guard_slot p ≤ j → effects_start ≤ j) × (group_start p ≤ j → group_start transition_room ≤ j)
          × (transition_row p ≤ j → limits_start ≤ j) → get_or u j 0 ≡ get_or t j 0
      same = put_same t p n key ws l f refl least room few short

      before : (k : ℕ) → k < p → transition_of u k ≡ transition_of t k
      before k h =
          transition_same_lem t u k k f words (omega (arith, least)) (omega (arith, least)) (λ j m. same _ (omega (arith, least)))
          (λ j m. same _ (omega (arith, least))) (λ j m. same _ (omega (arith, least)))

      rowed : List ℕ
      rowed = with_row t p n key (length ws) l.count

      limits : limits_of u p l.count ≡ sorted_limits l l.count
      limits =
          group_list (with_group rowed p n l) u p p l.count
          (λ j h. put-others t p n key ws l f refl least room few short _ (omega (arith, least))) few
          ∙ limits_list (gap_of rowed (group_start p) (group_start n) group_width) p l
          (opened_words rowed p n l (rowed_words t p n key ws l f refl least room few short) least room few) (omega (arith, least))
          l.count few

      here : transition_of u p ≡ new_transition
      here =
          rw (
            put_key t p n key ws l f refl least room few short,
            put_items t p n key ws l f refl least room few short,
            put_limits t p n key ws l f refl least room few short,
            limits,
          )

      behind : (k : ℕ) → p ≤ k → k < n → transition_of u (k + 1) ≡ transition_of t k
      behind k h m =
          transition_same_lem t u k (k + 1) f words m (omega arith)
          (row_moved t p n key ws l f refl least room few short k (k + 1) refl h m)
          (limits_moved t p n key ws l f refl least room few short k (k + 1) refl h m)
          (guards-moved t p n key ws l f refl least room few short k (k + 1) refl h m)

-- ---- locations
pub location_list : (t : List ℕ) (l : Limits) → Words t → location_count t < location_room → l.count ≤ limit_room
    → limits_of (with_location t l) (invariant_group (location_count t)) l.count ≡ sorted_limits l l.count
location_list t l words room few =
    group_list (with_limits t (invariant_group (location_count t)) l l.count) (with_location t l) (invariant_group (location_count t))
    (invariant_group (location_count t)) l.count (location-group t l words room few) few
    ∙ limits_list t (invariant_group (location_count t)) l words (omega arith) l.count few

-- they are all its invariants
pub invariants_list : (t : List ℕ) (l : Limits) → Words t → location_count t < location_room → l.count ≤ limit_room
    → invariants_of (with_location t l) (location_count t) ≡ sorted_limits l l.count
invariants_list t l words room few =
    ap (limits_of (with_location t l) (invariant_group (location_count t))) (location-number t l words room few)
    ∙ location_list t l words room few
