-- Each edit keeps what was there, and how what it puts in reads.
use Prim.Native.Nat.{ℕ, ◌+◌, ◌-◌, ◌<◌, ◌≤◌}
use mathlib.Core.Path.{◌≡◌, refl, sym, ap, subst, ◌∙◌}
use mathlib.Core.Logic.{◌≢◌}
use mathlib.Core.Bool.{Bool, true, false, cond, ◌||◌}
use mathlib.Core.List.{List, [], ◌∷◌, ◌++◌}
use native.Mathlib.Nat.{add-zero}
use native.Mathlib.Omega.{arith}
use native.Mathlib.Decide.{dec_lt}
use borrow.Author.Tests.{eqb-true, eqb-false}
use lib.Dec.{eqb}
use lib.ListN.{length, get_or, set, length-set}
use lib.Seq.{get_or-set_same, get_or-set_other}
use Rattle.laws.proofs.Tests.{never}
use Rattle.grammar.specs.Slots.{val_of}
use Rattle.graph_tables.specs.Layout.{variables_cell, clocks_cell, locations_cell, actions_cell, processes_cell, transitions_cell, kinds_start}
use Rattle.graph_tables.specs.Layout.{transitions_start, guards_start, effects_start, action_width, group_width, vars_from, lengths_from, kind_cell}
use Rattle.graph_tables.specs.Layout.{value_cell, place_cell, invariants_cell, action_row, resets_cell, effects_cell, reset_cell, var_cell}
use Rattle.graph_tables.specs.Layout.{length_cell, group_start}
use Rattle.graph_tables.specs.Sizes.{process_room, location_room, action_room, transition_room, variable_room, limit_room, effect_room, reset_room}
use Rattle.graph_tables.specs.Sizes.{message_room, item_room, plain_kind, send_kind, receive_kind}
use Rattle.graph_tables.specs.declared.handed.Limits.{Limits}
use Rattle.graph_tables.specs.declared.handed.Vars.{Vars}
use Rattle.graph_tables.specs.Handed.{handed_var}
use Rattle.graph_tables.specs.Words.{Words, variable_count, location_count, action_count, process_count, transition_count, place_at, action_kind}
use Rattle.graph_tables.specs.Words.{reset_count, effect_count, key_of, invariant_group}
use Rattle.graph_tables.proofs.KeptLaws.{Formed}
use Rattle.graph_edits.specs.Edits.{with_var, with_clock, with_limits, with_expressions, with_targets, with_location, with_process}
use Rattle.graph_edits.specs.Edits.{action_put, with_action, with_reset, with_effect, with_send, with_receive, transition_place}
use Rattle.graph_edits.specs.Edits.{with_transition}
use Rattle.graph_edits.specs.Lists.{list_of, insert_sorted, variable_at, invariants_of, sorted_limits, resets_of, effects_of, plain, send}
use Rattle.graph_edits.specs.Lists.{receive, action_at}
use Rattle.graph_edits.proofs.GrownFormed.{Around}
use Rattle.graph_edits.proofs.SpareFormed.{Spare, Agrees, spare_kind_lem, spare_value, spare_place, spare_action, spare_item}
use Rattle.graph_edits.proofs.SpareFormed.{spare_invariants, spare_group, set_agrees}
use Rattle.graph_edits.proofs.ExpressionLaws.{Message, Short, message, targets_words, targets_other}
use Rattle.graph_edits.proofs.LocationFormed.{limited_words, limited_same, put_words as location-words, put_count as location_count_lem}
use Rattle.graph_edits.proofs.LocationFormed.{put_same as location-same}
use Rattle.graph_edits.proofs.ResetFormed.{before as reset-before, after as reset-after, around as reset-around}
use Rattle.graph_edits.proofs.EffectFormed.{row as effect-row, around as effect-around}
use Rattle.graph_edits.proofs.TransitionFormed.{put_words, put_count, put_same}
use Rattle.graph_edits.proofs.PlaceLaws.{place_bound}
use Rattle.graph_edits.proofs.ListLaws.{resets_list, effects_list, send_list, receive_list, invariants_list}
use Rattle.graph_edits.proofs.ActionFormed.{put_row}
use Rattle.graph_edits.proofs.PartsKept.{none, Kept, plain_at, send_at_lem, receive_at_lem, was, invariants_same, resets_same, effects_same}
use Rattle.graph_edits.proofs.PartsKept.{action_stays, same_kept, raised_kept, around_kept}

-- ---- a variable, a clock, a process more
pub var_keeps : (t : List ℕ) (kind value : ℕ) → Formed t → variable_count t < variable_room
    → Kept (eqb variables_cell) none t (with_var t kind value)
var_keeps t kind value f room =
    raised_kept t (set (set t (kind_cell n) kind) (value_cell n) value) variables_cell f (omega arith) (simp length-set f.words)
    (set_agrees t (set t (kind_cell n) kind) (value_cell n) value (spare_value t f.counts room)
    (set_agrees t t (kind_cell n) kind (spare_kind_lem t f.counts room) (λ j used. refl)))
  where
    n : ℕ
    n = variable_count t

-- the variable that is put in
pub var_read_lem : (t : List ℕ) (kind value : ℕ) → Formed t → variable_count t < variable_room
    → variable_at (with_var t kind value) (variable_count t) ≡ val_of kind value
var_read_lem t kind value f room = rw (word, number)
  where
    n : ℕ
    n = variable_count t

    w : List ℕ
    w = set t (kind_cell n) kind

    word : get_or (with_var t kind value) (kind_cell n) 0 ≡ kind
    word =
        get_or-set_other (set w (value_cell n) value) variables_cell (kind_cell n) (n + 1) 0 (omega arith)
        ∙ get_or-set_other w (value_cell n) (kind_cell n) value 0 (omega arith)
        ∙ get_or-set_same t (kind_cell n) kind 0 (omega (arith, f.words))

    number : get_or (with_var t kind value) (value_cell n) 0 ≡ value
    number =
        get_or-set_other (set w (value_cell n) value) variables_cell (value_cell n) (n + 1) 0 (omega arith)
        ∙ get_or-set_same w (value_cell n) value 0 (simp length-set (omega (arith, f.words)))

pub clock_keeps : (t : List ℕ) → Formed t → Kept (eqb clocks_cell) none t (with_clock t)
clock_keeps t f = raised_kept t t clocks_cell f (omega arith) f.words (λ j used. refl)

pub process_keeps : (t : List ℕ) (l : ℕ) → Formed t → process_count t < process_room → Kept (eqb processes_cell) none t (with_process t l)
process_keeps t l f room =
    raised_kept t (set t (place_cell (process_count t)) l) processes_cell f (omega arith) (simp length-set f.words)
    (set_agrees t t (place_cell (process_count t)) l (spare_place t f.counts room) (λ j used. refl))

-- the place of the process that is put in
pub process_read : (t : List ℕ) (l : ℕ) → Formed t → process_count t < process_room → place_at (with_process t l) (process_count t) ≡ l
process_read t l f room =
    get_or-set_other (set t (place_cell (process_count t)) l) processes_cell (place_cell (process_count t)) (process_count t + 1) 0 (omega arith)
    ∙ get_or-set_same t (place_cell (process_count t)) l 0 (omega (arith, f.words))

-- an action more, where w has the words of t that are not spare
put_keeps : (t w : List ℕ) (kind count : ℕ) → Formed t → action_count t < action_room → Words w → Agrees t w
    → Kept (eqb actions_cell) none t (with_action w kind count)
put_keeps t w kind count f room whole agrees =
    subst (λ (n : ℕ). Kept (eqb actions_cell) none t (action_put w n kind count)) (sym (agrees actions_cell (λ s. omega arith)))
    (raised_kept t (set (set (set w (action_row n) kind) (resets_cell n) 0) (effects_cell n) count) actions_cell f (omega arith)
    (simp length-set whole)
    (set_agrees t (set (set w (action_row n) kind) (resets_cell n) 0) (effects_cell n) count (spare 2 (omega arith))
    (set_agrees t (set w (action_row n) kind) (resets_cell n) 0 (spare 1 (omega arith))
    (set_agrees t w (action_row n) kind (simp add-zero at (spare 0 (omega arith))) agrees))))
  where
    n : ℕ
    n = action_count t

    spare : (i : ℕ) → i < action_width → Spare t (action_row n + i)
    spare = spare_action t f.counts room

-- its row
abbrev Row : List ℕ → ℕ → ℕ → ℕ → Type 0
Row u kind count n = (action_kind u n ≡ kind) × (reset_count u n ≡ 0) × (effect_count u n ≡ count)

put_read : (t w : List ℕ) (kind count : ℕ) → action_count t < action_room → Words w → Agrees t w
    → Row (with_action w kind count) kind count (action_count t)
put_read t w kind count room whole agrees =
    subst (Row (with_action w kind count) kind count) at (put_row w (action_count w) kind count whole (omega (arith, at)))
  where
    at : action_count w ≡ action_count t
    at = agrees actions_cell (λ s. omega arith)

-- a plain one
module _ (t : List ℕ) (f : Formed t) (room : action_count t < action_room) where
  pub action_keeps : Kept (eqb actions_cell) none t (with_action t plain_kind 0)
  action_keeps = put_keeps t t plain_kind 0 f room f.words (λ j used. refl)

  pub action_read : action_at (with_action t plain_kind 0) (action_count t) ≡ plain [] []
  unfolding list_of
  action_read =
      let row = put_read t t plain_kind 0 room f.words (λ j used. refl) in
      plain_at (with_action t plain_kind 0) (action_count t) row.0 ∙ rw (row.1, row.2)

-- a send
module _ (t : List ℕ) (m : ℕ → List ℕ) (count : ℕ) (f : Formed t) (room : action_count t < action_room) (few : count ≤ message_room)
    (short : Short m count) where
  sent : Message t (action_count t) m count (with_expressions t (action_count t) m count)
  sent = message t (action_count t) m count f.words room few short

  sent_agrees : Agrees t (with_expressions t (action_count t) m count)
  sent_agrees j used = sent.other j (λ i l. record {
    no_length = λ e. used (subst (Spare t) (sym e) (row i (omega arith)));
    no_item = λ k h e. used (subst (Spare t) (sym e) (spare_item t f.counts room i k (omega arith) h));
  })
    where
      row : (i : ℕ) → i < reset_room → Spare t (length_cell (action_count t) i)
      row i l = spare_action t f.counts room (lengths_from + i) (omega arith)

  pub send_keeps : Kept (eqb actions_cell) none t (with_send t m count)
  send_keeps = put_keeps t (with_expressions t (action_count t) m count) send_kind count f room sent.words sent_agrees

  pub send_read : action_at (with_send t m count) (action_count t) ≡ send (list_of m count)
  send_read =
      let row = put_read t (with_expressions t (action_count t) m count) send_kind count room sent.words sent_agrees in
      send_at_lem (with_send t m count) (action_count t) row.0 ∙ ap send (send_list t m count f.words room few short)

-- a receive
module _ (t : List ℕ) (v : Vars) (f : Formed t) (room : action_count t < action_room) (few : v.count ≤ message_room) where
  abbrev aimed : List ℕ
  aimed = with_targets t (action_count t) v v.count

  aimed_words : Words aimed
  aimed_words = targets_words t (action_count t) v v.count f.words

  aimed_agrees : Agrees t aimed
  aimed_agrees j used = targets_other t (action_count t) v v.count j (λ i l e. used (subst (Spare t) (sym e) (row i (omega arith))))
    where
      row : (i : ℕ) → i < reset_room → Spare t (var_cell (action_count t) i)
      row i l = spare_action t f.counts room (vars_from + i) (omega arith)

  pub receive_keeps : Kept (eqb actions_cell) none t (with_receive t v)
  receive_keeps = put_keeps t aimed receive_kind v.count f room aimed_words aimed_agrees

  pub receive_read : action_at (with_receive t v) (action_count t) ≡ receive (list_of (handed_var v) v.count)
  receive_read =
      let row = put_read t aimed receive_kind v.count room aimed_words aimed_agrees in
      receive_at_lem (with_receive t v) (action_count t) row.0 ∙ ap receive (receive_list t v f.words room few)

-- a used word is not among the limits of a location more
beyond : (t : List ℕ) → Formed t → location_count t < location_room → (j : ℕ) → (Spare t j → ⊥)
    → group_start (invariant_group (location_count t)) ≤ j → group_start (invariant_group (location_count t)) + group_width ≤ j
beyond t f room j used low = by (dec_lt j (group_start (invariant_group n) + group_width))
  where
    n : ℕ
    n = location_count t

    by : Dec (j < group_start (invariant_group n) + group_width) → group_start (invariant_group n) + group_width ≤ j
    by (yes h) =
        let e : j ≡ group_start (invariant_group n) + (j - (group_start (invariant_group n))) = omega arith in
        absurd (used (subst (Spare t) (sym e) (spare_group t f.counts room (j - (group_start (invariant_group n))) (omega arith))))
    by (no h) = omega arith

pub location_keeps : (t : List ℕ) (l : Limits) → Formed t → location_count t < location_room → l.count ≤ limit_room
    → Kept (eqb locations_cell) none t (with_location t l)
location_keeps t l f room few =
    raised_kept t (set w (invariants_cell n) l.count) locations_cell f (omega arith)
    (simp length-set (limited_words t l f.words room few))
    (set_agrees t w (invariants_cell n) l.count (spare_invariants t f.counts room)
    (λ j used. limited_same t l f.words room few j (beyond t f room j used)))
  where
    n : ℕ
    n = location_count t

    w : List ℕ
    w = with_limits t (invariant_group n) l l.count

-- the place of a process more
abbrev pub place_grows : ℕ → Bool
place_grows c = eqb locations_cell c || eqb processes_cell c

module _ (t : List ℕ) (l : Limits) (f : Formed t) (room : location_count t < location_room) (free : process_count t < process_room)
    (few : l.count ≤ limit_room) where
  -- the process alone
  abbrev placed : List ℕ
  placed = with_process t (location_count t)

  abbrev settled : List ℕ
  settled = with_location placed l

  placed_words : Words placed
  placed_words = simp length-set f.words

  placed_stays : (j : ℕ) → (j ≡ processes_cell → ⊥) × (j ≡ place_cell (process_count t) → ⊥) → get_or placed j 0 ≡ get_or t j 0
  placed_stays j h =
      get_or-set_other (set t (place_cell (process_count t)) (location_count t)) processes_cell j (process_count t + 1) 0 h.0
      ∙ get_or-set_other t (place_cell (process_count t)) j (location_count t) 0 h.1

  placed_locations : location_count placed ≡ location_count t
  placed_locations = placed_stays locations_cell (omega arith)

  placed_room : location_count placed < location_room
  placed_room = omega (arith, placed_locations)

  settled_same : (j : ℕ) → (j ≡ locations_cell → ⊥) × (j ≡ invariants_cell (location_count placed) → ⊥)
      × (group_start (invariant_group (location_count placed)) ≤ j → group_start (invariant_group (location_count placed)) + group_width ≤ j)
      → get_or settled j 0 ≡ get_or placed j 0
  settled_same = location-same placed l placed_words placed_room few

  settled_counts : (c : ℕ) → c < kinds_start → get_or settled c 0 ≡ cond (place_grows c) (get_or t c 0 + 1) (get_or t c 0)
  settled_counts c h = by (eqb locations_cell c) (eqb processes_cell c) refl refl
    where
      by : (x y : Bool) → eqb locations_cell c ≡ x → eqb processes_cell c ≡ y → get_or settled c 0 ≡ cond (x || y) (get_or t c 0 + 1) (get_or t c 0)
      by true y d e =
          subst (λ (i : ℕ). get_or settled i 0 ≡ get_or t i 0 + 1) (eqb-true locations_cell c d)
          (location_count_lem placed l placed_words placed_room few ∙ ap (λ (i : ℕ). i + 1) placed_locations)
      by false true d e =
          subst (λ (i : ℕ). get_or settled i 0 ≡ get_or t i 0 + 1) (eqb-true processes_cell c e)
          (settled_same processes_cell (omega arith)
          ∙ get_or-set_same (set t (place_cell (process_count t)) (location_count t)) processes_cell (process_count t + 1) 0
          (simp length-set (omega (arith, f.words))))
      by false false d e =
          settled_same c ((λ q. eqb-false locations_cell c d (sym q)), omega arith, omega arith)
          ∙ placed_stays c ((λ q. eqb-false processes_cell c e (sym q)), omega arith)

  settled_stays : (j : ℕ) → transitions_cell ≤ j → (Spare t j → ⊥) → get_or settled j 0 ≡ get_or t j 0
  settled_stays j h used =
      settled_same j (
        omega arith,
        (λ e. used (subst (Spare t) (sym (e ∙ ap (λ (i : ℕ). invariants_cell i) placed_locations)) (spare_invariants t f.counts room))),
        λ m. omega (arith, placed_locations, beyond t f room j used (omega (arith, placed_locations))),
      )
      ∙ placed_stays j (omega arith, λ e. used (subst (Spare t) (sym e) (spare_place t f.counts free)))

  pub initial_keeps : Kept place_grows none t settled
  initial_keeps = same_kept place_grows t settled f (location-words placed l placed_words placed_room few) settled_counts settled_stays

  pub initial_invariants : invariants_of settled (location_count t) ≡ sorted_limits l l.count
  initial_invariants =
      subst (λ (n : ℕ). invariants_of settled n ≡ sorted_limits l l.count) placed_locations
      (invariants_list placed l placed_words placed_room few)

  pub initial_place : place_at settled (process_count t) ≡ location_count t
  initial_place = settled_same (place_cell (process_count t)) (omega arith) ∙ process_read t (location_count t) f free

-- ---- a reset, an effect more
module _ (t : List ℕ) (a clock : ℕ) (f : Formed t) (known : a < action_count t) (room : reset_count t a < reset_room) where
  abbrev reset : List ℕ
  reset = with_reset t a clock

  reset_low : a < action_room
  reset_low = omega (arith, f.counts.actions)

  before : (j : ℕ) → j < reset_cell a 0 → (j ≡ resets_cell a → ⊥) → get_or reset j 0 ≡ get_or t j 0
  before j l = reset-before t a clock f.words reset_low room j (omega arith)

  after : (j : ℕ) → var_cell a 0 ≤ j → get_or reset j 0 ≡ get_or t j 0
  after = reset-after t a clock f.words reset_low room

  reset_stands : Around t reset a
  reset_stands = reset-around t a clock f.words reset_low room f.counts.actions

  pub reset_keeps : Kept none (eqb a) t reset
  reset_keeps = around_kept t reset a reset_low f reset_stands (before actions_cell (omega arith) (omega arith))

  -- a reset is put in its place
  pub reset_read : action_kind t a ≡ plain_kind → action_at reset a ≡ plain (insert_sorted (λ (c : ℕ). c) clock (resets_of t a)) (effects_of t a)
  reset_read k =
      plain_at reset a (before (action_row a) (omega arith) (omega arith) ∙ k)
      ∙ rw (
        resets_list t a clock f.words reset_low room,
        (effects_same t reset f reset_stands.words a known (before (effects_cell a) (omega arith) (omega arith))
            (λ e l. (after _ (omega arith), after _ (omega arith), λ j m. after _ (omega arith)))).of_plain k,
      )

module _ (t : List ℕ) (a v : ℕ) (ws : List ℕ) (f : Formed t) (known : a < action_count t) (room : effect_count t a < effect_room)
    (short : length ws ≤ item_room) where
  abbrev effected : List ℕ
  effected = with_effect t a v ws

  effect_low : a < action_room
  effect_low = omega (arith, f.counts.actions)

  effect_stands : Around t effected a
  effect_stands = effect-around t a v ws f.words effect_low room short f.counts.actions

  row : (j : ℕ) → (j < var_cell a 0) × (j ≢ effects_cell a) → get_or effected j 0 ≡ get_or t j 0
  row j r = effect-row t a v ws f.words effect_low room short j (omega (arith, effect_low, r))

  pub effect_keeps : Kept none (eqb a) t effected
  effect_keeps = around_kept t effected a effect_low f effect_stands (row actions_cell (omega arith))

  -- an effect is put behind the others
  pub effect_read : action_kind t a ≡ plain_kind
      → action_at effected a ≡ plain (resets_of t a) (effects_of t a ++ (record { var = v; items = ws } ∷ []))
  effect_read k =
      plain_at effected a (row (action_row a) (omega arith) ∙ k)
      ∙ rw (
        resets_same t effected f effect_stands.words a known (row (resets_cell a) (omega arith))
            (λ i l. row (reset_cell a i) (omega arith)),
        effects_list t a v ws f.words effect_low room short
            (λ e l. ((((was t effected f effect_stands.words).action a known).plain k).effect e l).expression.short),
      )

-- ---- a transition more
pub transition_keeps : (t : List ℕ) (key : ℕ) (ws : List ℕ) (l : Limits) → Formed t → transition_count t < transition_room
    → length ws ≤ item_room → l.count ≤ limit_room → Kept (eqb transitions_cell) none t (with_transition t key ws l)
transition_keeps t key ws l f room short few = record {
  counts = λ c h. by c h (eqb transitions_cell c) refl;
  variables = λ v h. rw (same (kind_cell v) (omega arith), same (value_cell v) (omega arith));
  locations = λ i h.
      invariants_same t u f words i h (record { count = same (invariants_cell i) (omega arith); group = λ j m. same _ (omega arith) });
  places = λ i h. same (place_cell i) (omega arith);
  actions = λ a h still.
      action_stays t u f words a h (record { row = λ j m. same _ (omega arith); items = λ e m j q. same _ (omega arith) });
  transitions = λ still. never (sym still);
}
  where
    n : ℕ
    n = transition_count t

    p : ℕ
    p = transition_place t key

    u : List ℕ
    u = with_transition t key ws l

    least : p ≤ n
    least = place_bound (key_of t) n key

    words : Words u
    words = put_words t p n key ws l f refl least room few short

    count : transition_count u ≡ n + 1
    count = put_count t p n key ws l f refl least room few short

    -- a word that is of no transition
    same : (j : ℕ)
        → (j ≡ transitions_cell → ⊥) × (transitions_start ≤ j → group_start transition_room ≤ j) × (guards_start ≤ j → effects_start ≤ j)
        → get_or u j 0 ≡ get_or t j 0
    same j h =
        put_same t p n key ws l f refl least room few short j
        (h.0, λ m. h.2 (omega arith), λ m. h.1 (omega arith), λ m. omega (arith, h.1 (omega arith)))

    by : (c : ℕ) → c < kinds_start → (b : Bool) → eqb transitions_cell c ≡ b → get_or u c 0 ≡ cond b (get_or t c 0 + 1) (get_or t c 0)
    by c h true e = subst (λ (i : ℕ). get_or u i 0 ≡ get_or t i 0 + 1) (eqb-true transitions_cell c e) count
    by c h false e = same c ((λ q. eqb-false transitions_cell c e (sym q)), omega arith, omega arith)
