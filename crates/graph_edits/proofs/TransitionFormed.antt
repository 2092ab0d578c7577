-- A well-formed table stays so when a transition is put in.
use Prim.Native.Nat.{ℕ, zero, suc, ◌+◌, ◌-◌, ◌<◌, ◌≤◌}
use mathlib.Core.Path.{◌≡◌, refl, ◌∙◌}
use mathlib.Core.Bool.{Bool, true, false, cond}
use mathlib.Core.List.{List}
use native.Mathlib.Nat.{add-zero}
use native.Mathlib.Omega.{arith}
use borrow.Author.Tests.{ltb-true, le-leb, eq-eqb, eqb-false}
use lib.Dec.{leb, eqb}
use lib.ListN.{length, get_or, take, drop, length-set}
use lib.Seq.{get_or-set_same, get_or-set_other}
use Rattle.laws.specs.Below.{◌and◌}
use Rattle.laws.proofs.BelowLaws.{and_first, and_both}
use Rattle.grammar.specs.Draws.{draws_of}
use Rattle.grammar.specs.Typing.{type_of, typed_as}
use Rattle.graph_tables.specs.Layout.{variables_cell, clocks_cell, locations_cell, actions_cell, processes_cell, transitions_cell, limits_start}
use Rattle.graph_tables.specs.Layout.{effects_start, transition_width, group_width, kind_cell, value_cell, place_cell, invariants_cell}
use Rattle.graph_tables.specs.Layout.{transition_row, guard_cell, limits_cell, group_start, guard_slot}
use Rattle.graph_tables.specs.Sizes.{transition_room, limit_room, item_room}
use Rattle.graph_tables.specs.declared.handed.Limits.{Limits}
use Rattle.graph_tables.specs.Words.{Words, variable_count, location_count, action_count, process_count, transition_count, kinds_of, place_at}
use Rattle.graph_tables.specs.Words.{invariant_count, key_of, guard_length, limit_count, guard_items, invariant_group}
use Rattle.graph_tables.specs.Formed.{limits_formed, location_formed, process_formed, key_formed, key_before, guard_formed, transition_formed}
use Rattle.graph_tables.proofs.FormedLaws.{few_limits}
use Rattle.graph_tables.proofs.KeptLaws.{Formed, Grown, Moved, GroupMoved, variable_kept, limits_kept, location_kept, process_kept}
use Rattle.graph_tables.proofs.KeptLaws.{action_kept, typed_as_grown, key_kept, transition_kept}
use Rattle.graph_edits.specs.Rows.{gap_of}
use Rattle.graph_edits.specs.Edits.{LimitsFit, with_row, with_group, with_guard, transition_at, transition_place, with_transition}
use Rattle.graph_edits.specs.Edits.{ClocksKnown}
use Rattle.graph_edits.proofs.ReadLaws.{gap_length, gap_before, gap_moved, gap_after, paste_length, paste_before, paste_after}
use Rattle.graph_edits.proofs.ReadLaws.{paste_items, moved_items}
use Rattle.graph_edits.proofs.PlaceLaws.{place_bound, place_above, place_below}
use Rattle.graph_edits.proofs.LimitLaws.{Outside, Put, sides, outside, put, ordered, limits_length, limits_before, limits_after}
use Rattle.graph_edits.proofs.LimitLaws.{limits_formed_lem, clocks_same}
use Rattle.graph_edits.proofs.LocationFormed.{grown_same, keys_ordered}

-- ---- row p of n, with the rows from there on moved up
row_put : (t : List ℕ) (p n key items limits : ℕ) → Words t → p ≤ n → n < transition_room
    → Put t (with_row t p n key items limits) (transition_row p) (transition_row n) key items limits
unfolding with_row
row_put t p n key items limits words least room = put t (transition_row p) (transition_row n) key items limits (omega arith) (omega arith)

-- ---- limit group p of n, with the groups from there on moved up
module _ (t : List ℕ) (p n : ℕ) (l : Limits) (words : Words t) (least : p ≤ n) (room : n < transition_room)
    (few : l.count ≤ limit_room) where
  abbrev opened : List ℕ
  opened = gap_of t (group_start p) (group_start n) group_width

  low : group_start p ≤ group_start n
  low = omega arith

  high : group_start n + group_width ≤ length t
  high = omega arith

  pub opened_words : Words opened
  opened_words = gap_length t _ _ group_width low high ∙ words

  group_words : Words (with_group t p n l)
  unfolding with_group
  group_words = limits_length opened p l opened_words (omega arith) l.count few ∙ opened_words

  group_outside : Outside t (with_group t p n l) (group_start p) (group_start n + group_width)
  unfolding with_group
  group_outside =
      outside t (with_group t p n l) _ _
      (λ j h. limits_before opened p l opened_words (omega arith) l.count few j h ∙ gap_before t _ _ group_width low high j (omega arith))
      (λ j h. limits_after opened p l opened_words (omega arith) l.count few j (omega arith) ∙ gap_after t _ _ group_width low high j h)

  group_moved : (j : ℕ) → group_start p ≤ j → j < group_start n → get_or (with_group t p n l) (j + group_width) 0 ≡ get_or t j 0
  unfolding with_group
  group_moved j h k =
      limits_after opened p l opened_words (omega arith) l.count few (j + group_width) (omega arith)
      ∙ gap_moved t _ _ group_width low high j h k

  group_formed : ClocksKnown t l → LimitsFit l → limits_formed (with_group t p n l) p l.count ≡ true
  unfolding with_group
  group_formed clocks fit =
      limits_formed_lem opened p l opened_words (omega arith) few
      (clocks_same t opened l (gap_before t _ _ group_width low high clocks_cell (omega arith)) clocks) fit

-- ---- guard p of n, with the guards from there on moved up
module _ (t : List ℕ) (p n : ℕ) (ws : List ℕ) (words : Words t) (least : p ≤ n) (room : n < transition_room)
    (short : length ws ≤ item_room) where
  abbrev parted : List ℕ
  parted = gap_of t (guard_slot p) (guard_slot n) item_room

  under : guard_slot p ≤ guard_slot n
  under = omega arith

  over : guard_slot n + item_room ≤ length t
  over = omega arith

  parted_words : Words parted
  parted_words = gap_length t _ _ item_room under over ∙ words

  fits : guard_slot p + length ws ≤ length parted
  fits = omega (arith, parted_words)

  guard_words_lem : Words (with_guard t p n ws)
  unfolding with_guard
  guard_words_lem = paste_length parted (guard_slot p) ws fits ∙ parted_words

  guard_outside : Outside t (with_guard t p n ws) (guard_slot p) (guard_slot n + item_room)
  unfolding with_guard
  guard_outside =
      outside t (with_guard t p n ws) _ _
      (λ j h. paste_before parted _ ws fits j h ∙ gap_before t _ _ item_room under over j (omega arith))
      (λ j h. paste_after parted (guard_slot p) ws fits j (omega arith) ∙ gap_after t _ _ item_room under over j h)

  guard_moved : (j : ℕ) → guard_slot p ≤ j → j < guard_slot n → get_or (with_guard t p n ws) (j + item_room) 0 ≡ get_or t j 0
  unfolding with_guard
  guard_moved j h k = paste_after parted (guard_slot p) ws fits (j + item_room) (omega arith) ∙ gap_moved t _ _ item_room under over j h k

  guard_items_lem : take (length ws) (drop (guard_slot p) (with_guard t p n ws)) ≡ ws
  unfolding with_guard
  guard_items_lem = paste_items parted (guard_slot p) ws fits

-- a guard that is none, or a boolean without draws
abbrev pub GuardFits : List ℕ → List ℕ → Type 0
GuardFits t ws = 0 < length ws → (typed_as 0 (type_of (kinds_of t) ws) ≡ true) × (draws_of ws ≡ 0)

guard_sound : (u : List ℕ) (k : ℕ) (ws : List ℕ) → guard_length u k ≡ length ws → guard_items u k ≡ ws → length ws ≤ item_room
    → GuardFits u ws → guard_formed u k ≡ true
unfolding guard_formed
guard_sound u k ws count items short sound = rw (items, count) (by (eqb (length ws) 0) refl)
  where
    by : (b : Bool) → eqb (length ws) 0 ≡ b
        → cond b true (leb (length ws) item_room and typed_as 0 (type_of (kinds_of u) ws) and eqb (draws_of ws) 0) ≡ true
    by true e = refl
    by false e =
        let some : 0 < length ws = omega (arith, eqb-false) in
        and_both (le-leb _ _ short) (and_both (sound some).0 (eq-eqb _ _ (sound some).1))

-- ---- t, which is well formed and has n transitions, with one more at place p
module _ (t : List ℕ) (p n key : ℕ) (ws : List ℕ) (l : Limits) (f : Formed t)
    (total : transition_count t ≡ n) (least : p ≤ n) (room : n < transition_room) (few : l.count ≤ limit_room)
    (short : length ws ≤ item_room) where
  abbrev rowed : List ℕ
  rowed = with_row t p n key (length ws) l.count

  abbrev limited : List ℕ
  limited = with_group rowed p n l

  abbrev guarded : List ℕ
  guarded = with_guard limited p n ws

  abbrev after : List ℕ
  after = transition_at t p n key ws l

  row : Put t rowed (transition_row p) (transition_row n) key (length ws) l.count
  row = row_put t p n key (length ws) l.count f.words least room

  pub rowed_words : Words rowed
  rowed_words = row.size ∙ f.words

  pub limited_words : Words limited
  limited_words = group_words rowed p n l rowed_words least room few

  guarded_words : Words guarded
  guarded_words = guard_words_lem limited p n ws limited_words least room short

  pub put_words : Words after
  unfolding transition_at
  put_words = simp length-set guarded_words

  pub put_count : transition_count after ≡ n + 1
  unfolding transition_at
  put_count = get_or-set_same guarded transitions_cell (n + 1) 0 (omega (arith, guarded_words))

  -- a word as it was before the number of transitions, the guards, the limits and the rows were written
  guards : (j : ℕ) → (j ≡ transitions_cell → ⊥) → get_or after j 0 ≡ get_or guarded j 0
  unfolding transition_at
  guards j h = get_or-set_other guarded transitions_cell j (n + 1) 0 h

  pub limits : (j : ℕ) → (j ≡ transitions_cell → ⊥) × (guard_slot p ≤ j → effects_start ≤ j) → get_or after j 0 ≡ get_or limited j 0
  limits j h = guards j h.0 ∙ guard_outside limited p n ws limited_words least room short j (λ m. omega (arith, h.1 m))

  rows : (j : ℕ) → (j ≡ transitions_cell → ⊥) × (guard_slot p ≤ j → effects_start ≤ j) × (group_start p ≤ j → group_start transition_room ≤ j)
      → get_or after j 0 ≡ get_or rowed j 0
  rows j h = limits j (h.0, h.1) ∙ group_outside rowed p n l rowed_words least room few j (λ m. omega (arith, h.2 m))

  pub put_same : (j : ℕ)
      → (j ≡ transitions_cell → ⊥) × (guard_slot p ≤ j → effects_start ≤ j) × (group_start p ≤ j → group_start transition_room ≤ j)
      × (transition_row p ≤ j → limits_start ≤ j)
      → get_or after j 0 ≡ get_or t j 0
  put_same j h =
      rows j (h.0, h.1, h.2)
      ∙ outside t rowed (transition_row p) (transition_row n + transition_width) row.before row.after j (λ m. omega (arith, h.3 m))

  -- transition k, from the place on, is transition k + 1
  module _ (k m : ℕ) (e : m ≡ k + 1) (from : p ≤ k) (to : k < n) where
    pub row_moved : Moved t after (transition_row k) (transition_row m) transition_width
    row_moved j h =
        let q : transition_row m + j ≡ transition_row k + j + transition_width = omega arith in
        rw q (rows (transition_row k + j + transition_width) (omega arith) ∙ row.moved (transition_row k + j) (omega arith) (omega arith))

    pub limits_moved : GroupMoved t after k m
    limits_moved j h =
        let q : group_start m + j ≡ group_start k + j + group_width = omega arith in
        rw q
        (limits (group_start k + j + group_width) (omega arith)
        ∙ group_moved rowed p n l rowed_words least room few (group_start k + j) (omega arith) (omega arith)
        ∙ row.after (group_start k + j) (omega arith))

    pub items_moved : Moved t after (guard_slot k) (guard_slot m) item_room
    items_moved j h =
        let q : guard_slot m + j ≡ guard_slot k + j + item_room = omega arith in
        rw q
        (guards (guard_slot k + j + item_room) (omega arith)
        ∙ guard_moved limited p n ws limited_words least room short (guard_slot k + j) (omega arith) (omega arith)
        ∙ group_outside rowed p n l rowed_words least room few (guard_slot k + j) (omega arith)
        ∙ row.after (guard_slot k + j) (omega arith))

  -- the new transition
  pub put_key : key_of after p ≡ key
  put_key = rows (transition_row p) (omega arith) ∙ row.first

  pub put_guard : guard_length after p ≡ length ws
  put_guard = rows (guard_cell p) (omega arith) ∙ row.second

  pub put_limits : limit_count after p ≡ l.count
  put_limits = rows (limits_cell p) (omega arith) ∙ row.third

  pub put_items : guard_items after p ≡ ws
  put_items =
      rw put_guard
      (moved_items guarded after (guard_slot p) (guard_slot p) item_room (length ws) short (omega (arith, guarded_words))
      (omega (arith, put_words))
      (λ j h. guards _ (omega arith))
      ∙ guard_items_lem limited p n ws limited_words least room short)

  put_formed : ClocksKnown t l → LimitsFit l → limits_formed after p l.count ≡ true
  put_formed clocks fit =
      limits_kept more p p l.count (λ j h. limits _ (omega arith))
      (group_formed rowed p n l rowed_words least room few (clocks_same t rowed l (row.before clocks_cell (omega arith)) clocks) fit)
    where
      more : Grown limited after
      more =
          grown_same limited after limited_words put_words
          (omega (arith, limits variables_cell (omega arith), put_same variables_cell (omega arith)))
          (omega (arith, limits locations_cell (omega arith))) (λ j h. limits j (omega arith))

  grown : Grown t after
  grown =
      grown_same t after f.words put_words f.counts.variables (omega (arith, put_same locations_cell (omega arith)))
      (λ j h. put_same j (omega arith))

  process : (q : ℕ) → q < process_count t → process_formed after q ≡ true
  unfolding process_formed location_formed
  process q h =
      let known : place_at t q < location_count t = ltb-true _ _ (and_first _ _ (f.process q h)) in
      process_kept grown q (put_same (place_cell q) (omega arith)) (put_same (invariants_cell (place_at t q)) (omega arith))
      (λ j k. put_same _ (omega arith))
      (few_limits t (invariant_group (place_at t q)) (invariant_count t (place_at t q)) (f.location (place_at t q) known)) (f.process q h)

  -- ---- p is the place of the key
  module _ (above : p < n → key < key_of t p) (below : (k : ℕ) → k < p → key_of t k ≤ key) where
    order : (k : ℕ) → k < n + 1 → key_before after k ≤ key_of after k
    order zero h = omega arith
    order (suc k) h =
        let e : suc k ≡ k + 1 = omega arith in
        rw e
        (ordered (key_of t) (key_of after) n key p least above below (λ i m. put_same _ (omega arith)) put_key
        (λ i m q. simp add-zero at (row_moved i (i + 1) refl m q 0 (omega arith)))
        (λ i m. keys_ordered t f i (omega arith)) k (omega arith))

    old : (k : ℕ) → k < p → transition_formed after k ≡ true
    old k h =
        transition_kept grown k k (omega arith) (omega arith) (λ j m. put_same _ (omega arith)) (λ j m. put_same _ (omega arith))
        (λ j m. put_same _ (omega arith))
        (order k (omega arith)) (f.transition k (omega arith))

    later : (k : ℕ) → p < k → k < n + 1 → transition_formed after k ≡ true
    later k h m =
        let e : k ≡ k - 1 + 1 = omega arith in
        transition_kept grown (k - 1) k (omega arith) (omega arith)
        (row_moved (k - 1) k e (omega arith) (omega arith)) (limits_moved (k - 1) k e (omega arith) (omega arith))
        (items_moved (k - 1) k e (omega arith) (omega arith))
        (order k m) (f.transition (k - 1) (omega arith))

    new : key_formed t key ≡ true → GuardFits t ws → ClocksKnown t l → LimitsFit l
        → transition_formed after p ≡ true
    unfolding transition_formed
    new known sound clocks fit =
        and_both (rw put_key (key_kept grown key known))
        (and_both (le-leb _ _ (order p (omega arith)))
        (and_both (guard_sound after p ws put_guard put_items short (λ h. (typed_as_grown grown 0 ws (sound h).0, (sound h).1)))
        (rw put_limits (put_formed clocks fit))))

    whole : key_formed t key ≡ true → GuardFits t ws → ClocksKnown t l → LimitsFit l → Formed after
    whole known sound clocks fit = record {
      words = put_words;
      counts = record {
        variables = grown.few;
        clocks = omega (arith, put_same clocks_cell (omega arith));
        locations = omega (arith, put_same locations_cell (omega arith));
        actions = omega (arith, put_same actions_cell (omega arith));
        processes = omega (arith, put_same processes_cell (omega arith));
        transitions = omega (arith, put_count);
      };
      variable = λ v h.
          let m : v < variable_count t = omega (arith, put_same variables_cell (omega arith)) in
          variable_kept t after v (put_same (kind_cell v) (omega arith)) (put_same (value_cell v) (omega arith)) (f.variable v m);
      location = λ i h.
          let m : i < location_count t = omega (arith, put_same locations_cell (omega arith)) in
          location_kept grown i (put_same (invariants_cell i) (omega arith)) (λ j k. put_same _ (omega arith)) (f.location i m);
      process = λ q h. process q (omega (arith, put_same processes_cell (omega arith)));
      action = λ a h.
          let m : a < action_count t = omega (arith, put_same actions_cell (omega arith)) in
          action_kept grown a (omega arith) (λ j k. put_same _ (omega arith)) (λ e k j q. put_same _ (omega arith)) (f.action a m);
      transition = λ k h. sides k p (old k) (λ e. rw e (new known sound clocks fit)) (λ m. later k m (omega (arith, put_count)));
    }

pub transition_formed_lem : (t : List ℕ) (key : ℕ) (ws : List ℕ) (l : Limits) → Formed t → transition_count t < transition_room
    → key_formed t key ≡ true → length ws ≤ item_room
    → GuardFits t ws → l.count ≤ limit_room → ClocksKnown t l → LimitsFit l
    → Formed (with_transition t key ws l)
transition_formed_lem t key ws l f room known short sound few clocks fit =
    let n = transition_count t in
    let least : transition_place t key ≤ n = place_bound (key_of t) n key in
    whole t (transition_place t key) n key ws l f refl least room few short (place_above (key_of t) n key)
    (place_below (key_of t) n key) known sound clocks fit
