-- Two well-formed tables that read alike have the same words in use.
use Prim.Native.Nat.{ℕ, zero, suc, ◌+◌, ◌%◌, ◌<◌, ◌≤◌}
use mathlib.Core.Path.{◌≡◌, refl, sym, ap, ◌∙◌}
use mathlib.Core.Logic.{◌≢◌}
use mathlib.Core.Bool.{true}
use mathlib.Core.List.{List, []}
use native.Mathlib.Decide.{dec_lt}
use native.Mathlib.Nat.{add-zero}
use native.Mathlib.Omega.{arith}
use lib.ListN.{length, get_or, take, drop, length-take, length-drop}
use lib.Seq.{get_or-take, get_or-drop}
use Rattle.laws.proofs.BelowLaws.{and_first, and_rest, all_at}
use Rattle.grammar.specs.Bits.{bits_of, from_bits}
use Rattle.grammar.specs.Slots.{val_of, payload_in}
use Rattle.grammar.proofs.BitLaws.{from_low, from_high}
use Rattle.graph_tables.specs.Layout.{kinds_start, resets_from, transition_width, limit_width, action_row, transition_row, limit_row, guard_slot}
use Rattle.graph_tables.specs.Layout.{effect_slot}
use Rattle.graph_tables.specs.Sizes.{word32, item_room, plain_kind, send_kind, receive_kind}
use Rattle.graph_tables.specs.Words.{variable_count, location_count, action_count, process_count, transition_count, kind_at, value_at}
use Rattle.graph_tables.specs.Words.{place_at, invariant_count, action_kind, reset_count, effect_count, reset_at, effect_var, effect_length}
use Rattle.graph_tables.specs.Words.{effect_items, key_of, guard_length, limit_count, guard_items, lower_of, upper_of, invariant_group}
use Rattle.graph_tables.specs.Formed.{bound_formed, limit_formed, limits_formed, location_formed, transition_formed}
use Rattle.graph_tables.specs.Sound.{Sound, ActionSound}
use Rattle.graph_tables.proofs.SoundLaws.{sound}
use Rattle.graph_tables.proofs.KeptLaws.{Formed, together}
use Rattle.graph_tables.proofs.OneToOne.{same_bound_words, same_keys}
use Rattle.graph_edits.specs.Lists.{variable_at, StoredLimit, limit_at, limits_of, invariants_of, StoredEffect, effect_at}
use Rattle.graph_edits.specs.Lists.{resets_of, StoredAction, plain, send, receive, action_at, StoredTransition, transition_of}
use Rattle.graph_edits.proofs.LimitLaws.{sides}
use Rattle.graph_edits.proofs.ListLaws.{list_length}
use Rattle.graph_edits.proofs.PartsKept.{plain_at, send_at_lem, receive_at_lem}
use Rattle.graph_builder.specs.Reading.{Graph, graph_of}
use Rattle.graph_builder.specs.Used.{count, kind, value, place, invariants, invariant, action, reset, var, long, item}
use Rattle.graph_builder.specs.Used.{transition, limit, guard, HasWords}
use Rattle.graph_builder.proofs.KeptParts.{resets_in, resets_in_lem}
use Rattle.graph_builder.proofs.ExactLaws.{list_at, same_count, same_row}
use Rattle.graph_builder.proofs.ExactActions.{same_kind_lem}

-- ---- a value's word
bits_back : (p : ℕ) → p < word32 → bits_of (from_bits p) ≡ p
bits_back p h = by (dec_lt p 2147483648)
  where
    by : Dec (p < 2147483648) → bits_of (from_bits p) ≡ p
    by (yes l) = rw (from_low p l)
    by (no l) = rw (from_high p (omega arith)) (omega arith)

value_back : (k p : ℕ) → k < 2 → p < word32 → (k ≡ 0 → p < 2) → payload_in (val_of k p) ≡ p
unfolding val_of
value_back zero zero l m b = refl
value_back zero (suc zero) l m b = refl
value_back zero (suc (suc p)) l m b = absurd (omega (arith, b refl))
value_back (suc zero) p l m b = let e : p % 4294967296 ≡ p = omega arith in rw e (bits_back p m)
value_back (suc (suc k)) p l m b = absurd (omega arith)

-- ---- items: how many, and each
module _ (t : List ℕ) (from n : ℕ) (room : from + n ≤ length t) where
  items_length : length (take n (drop from t)) ≡ n
  items_length = simp (length-take, length-drop) (omega arith)

  item_at : (j : ℕ) → j < n → get_or (take n (drop from t)) j 0 ≡ get_or t (from + j) 0
  item_at j l = get_or-take n (drop from t) j 0 l ∙ get_or-drop from t j 0

-- ---- limits
bounds_formed : (t : List ℕ) (g n : ℕ) → limits_formed t g n ≡ true → (i : ℕ) → i < n
    → (bound_formed (lower_of t g i) ≡ true) × (bound_formed (upper_of t g i) ≡ true)
unfolding limits_formed limit_formed
bounds_formed t g n h i l =
    let x = all_at (limit_formed t g) n i (and_rest _ _ h) l in
    (and_first _ _ (and_rest _ _ x), and_first _ _ (and_rest _ _ (and_rest _ _ x)))

module _ (t u : List ℕ) (g n m : ℕ) (in-t : limits_formed t g n ≡ true) (in_u : limits_formed u g m ≡ true)
    (same : limits_of u g m ≡ limits_of t g n) where
  how_many : m ≡ n
  how_many = same_count (limit_at u g) (limit_at t g) m n same

  limit_words_lem : (i j : ℕ) → i < n → j < limit_width → get_or u (limit_row g i + j) 0 ≡ get_or t (limit_row g i + j) 0
  limit_words_lem i j l = by j
    where
      low : i < m
      low = omega (arith, how_many)

      row : limit_at u g i ≡ limit_at t g i
      row = same_row (limit_at u g) (limit_at t g) m n same i low

      by : (j : ℕ) → j < limit_width → get_or u (limit_row g i + j) 0 ≡ get_or t (limit_row g i + j) 0
      by zero h = simp add-zero (ap (λ (x : StoredLimit). x.clock) row)
      by (suc zero) h =
          (same_bound_words _ _ (bounds_formed u g m in_u i low).0 (bounds_formed t g n in-t i l).0).0
          (ap (λ (x : StoredLimit). x.range.lower) row)
      by (suc (suc zero)) h =
          (same_bound_words _ _ (bounds_formed u g m in_u i low).1 (bounds_formed t g n in-t i l).1).0
          (ap (λ (x : StoredLimit). x.range.upper) row)
      by (suc (suc (suc j))) h = absurd (omega arith)

-- ---- what an action that is read says of its words
abbrev kind_read : StoredAction → ℕ
kind_read (plain resets effects) = plain_kind
kind_read (send expressions) = send_kind
kind_read (receive vars) = receive_kind

abbrev count_read : StoredAction → ℕ
count_read (plain resets effects) = length effects
count_read (send expressions) = length expressions
count_read (receive vars) = length vars

abbrev var_read : ℕ → StoredAction → ℕ
var_read e (plain resets effects) = (get_or effects e (record { var = 0; items = [] })).var
var_read e (send expressions) = 0
var_read e (receive vars) = get_or vars e 0

abbrev items_read : ℕ → StoredAction → List ℕ
items_read e (plain resets effects) = (get_or effects e (record { var = 0; items = [] })).items
items_read e (send expressions) = get_or expressions e []
items_read e (receive vars) = []

module _ (t : List ℕ) (a : ℕ) (s : ActionSound t a) where
  by_kind : {A : Type 0} → (action_kind t a ≡ plain_kind → A) → (action_kind t a ≡ send_kind → A) → (action_kind t a ≡ receive_kind → A) → A
  by_kind p q r = sides (action_kind t a) send_kind (λ m. p (omega arith)) q (λ m. r (omega (arith, s.kind)))

  kind_read_lem : kind_read (action_at t a) ≡ action_kind t a
  kind_read_lem =
      by_kind (λ k. ap kind_read (plain_at t a k) ∙ sym k) (λ k. ap kind_read (send_at_lem t a k) ∙ sym k)
      (λ k. ap kind_read (receive_at_lem t a k) ∙ sym k)

  count_read_lem : count_read (action_at t a) ≡ effect_count t a
  count_read_lem =
      by_kind (λ k. ap count_read (plain_at t a k) ∙ list_length (effect_at t a) _)
      (λ k. ap count_read (send_at_lem t a k) ∙ list_length (effect_items t a) _)
      (λ k. ap count_read (receive_at_lem t a k) ∙ list_length (effect_var t a) _)

  var_read_lem : (e : ℕ) → e < effect_count t a → action_kind t a ≢ send_kind → var_read e (action_at t a) ≡ effect_var t a e
  var_read_lem e l other =
      by_kind
      (λ k. ap (var_read e) (plain_at t a k) ∙ ap (λ (x : StoredEffect). x.var) (list_at (effect_at t a) _ _ e l))
      (λ k. absurd (other k))
      (λ k. ap (var_read e) (receive_at_lem t a k) ∙ list_at (effect_var t a) _ _ e l)

  items_read_lem : (e : ℕ) → e < effect_count t a → action_kind t a ≢ receive_kind → items_read e (action_at t a) ≡ effect_items t a e
  items_read_lem e l other =
      by_kind
      (λ k. ap (items_read e) (plain_at t a k) ∙ ap (λ (x : StoredEffect). x.items) (list_at (effect_at t a) _ _ e l))
      (λ k. ap (items_read e) (send_at_lem t a k) ∙ list_at (effect_items t a) _ _ e l)
      (λ k. absurd (other k))

  short_read : (e : ℕ) → e < effect_count t a → action_kind t a ≢ receive_kind → effect_length t a e ≤ item_room
  short_read e l other =
      by_kind (λ k. ((s.plain k).effect e l).expression.short) (λ k. ((s.send k).expression e l).short) (λ k. absurd (other k))

-- ---- the words of t, in u
module _ (t u : List ℕ) (f : Formed t) (h : Formed u) (same : graph_of u ≡ graph_of t) where
  s : Sound t
  s = sound t true (together t f)

  r : Sound u
  r = sound u true (together u h)

  -- counts
  variables : variable_count u ≡ variable_count t
  variables = same_count (variable_at u) (variable_at t) _ _ (ap (λ (g : Graph). g.variables) same)

  locations : location_count u ≡ location_count t
  locations = same_count (invariants_of u) (invariants_of t) _ _ (ap (λ (g : Graph). g.locations) same)

  processes : process_count u ≡ process_count t
  processes = same_count (place_at u) (place_at t) _ _ (ap (λ (g : Graph). g.processes) same)

  actions : action_count u ≡ action_count t
  actions = same_count (action_at u) (action_at t) _ _ (ap (λ (g : Graph). g.actions) same)

  transitions : transition_count u ≡ transition_count t
  transitions = same_count (transition_of u) (transition_of t) _ _ (ap (λ (g : Graph). g.transitions) same)

  count_word : (c : ℕ) → c < kinds_start → get_or u c 0 ≡ get_or t c 0
  count_word zero l = variables
  count_word (suc zero) l = ap (λ (g : Graph). g.clocks) same
  count_word (suc (suc zero)) l = locations
  count_word (suc (suc (suc zero))) l = actions
  count_word (suc (suc (suc (suc zero)))) l = processes
  count_word (suc (suc (suc (suc (suc zero))))) l = transitions
  count_word (suc (suc (suc (suc (suc (suc c)))))) l = absurd (omega arith)

  -- variables
  value_word : (v : ℕ) → v < variable_count t → value_at u v ≡ value_at t v
  value_word v l =
      let m : v < variable_count u = omega (arith, variables) in
      let x = s.variable v l in
      let y = r.variable v m in
      sym (value_back (kind_at u v) (value_at u v) y.kind y.fits y.truth)
      ∙ ap payload_in (same_row (variable_at u) (variable_at t) _ _ (ap (λ (g : Graph). g.variables) same) v m)
      ∙ value_back (kind_at t v) (value_at t v) x.kind x.fits x.truth

  -- locations
  invariants_same : (l : ℕ) → l < location_count t → invariants_of u l ≡ invariants_of t l
  invariants_same l m =
      same_row (invariants_of u) (invariants_of t) _ _ (ap (λ (g : Graph). g.locations) same) l (omega (arith, locations))

  invariant_words : (l : ℕ) → l < location_count t
      → (invariant_count u l ≡ invariant_count t l)
      × ((i j : ℕ) → i < invariant_count t l → j < limit_width
      → get_or u (limit_row (invariant_group l) i + j) 0 ≡ get_or t (limit_row (invariant_group l) i + j) 0)
  unfolding location_formed
  invariant_words l m =
      let g = invariant_group l in
      let x = f.location l m in
      let y = h.location l (omega (arith, locations)) in
      (how_many t u g _ _ x y (invariants_same l m), limit_words_lem t u g _ _ x y (invariants_same l m))

  -- actions
  module _ (a : ℕ) (known : a < action_count t) where
    there : a < action_count u
    there = omega (arith, actions)

    was : ActionSound t a
    was = s.action a known

    is : ActionSound u a
    is = r.action a there

    action_same : action_at u a ≡ action_at t a
    action_same = same_row (action_at u) (action_at t) _ _ (ap (λ (g : Graph). g.actions) same) a there

    kind_word_lem : action_kind u a ≡ action_kind t a
    kind_word_lem = sym (kind_read_lem u a is) ∙ ap kind_read action_same ∙ kind_read_lem t a was

    resets_same : resets_of u a ≡ resets_of t a
    resets_same = sym (resets_in_lem u a is) ∙ ap resets_in action_same ∙ resets_in_lem t a was

    resets_word : reset_count u a ≡ reset_count t a
    resets_word = same_count (reset_at u a) (reset_at t a) _ _ resets_same

    effects_word : effect_count u a ≡ effect_count t a
    effects_word = sym (count_read_lem u a is) ∙ ap count_read action_same ∙ count_read_lem t a was

    action_words : (j : ℕ) → j < resets_from → get_or u (action_row a + j) 0 ≡ get_or t (action_row a + j) 0
    action_words zero l = simp add-zero kind_word_lem
    action_words (suc zero) l = resets_word
    action_words (suc (suc zero)) l = effects_word
    action_words (suc (suc (suc j))) l = absurd (omega arith)

    module _ (e : ℕ) (l : e < effect_count t a) where
      low : e < effect_count u a
      low = omega (arith, effects_word)

      var_word : action_kind t a ≢ send_kind → effect_var u a e ≡ effect_var t a e
      var_word other =
          sym (var_read_lem u a is e low (λ k. other (sym kind_word_lem ∙ k))) ∙ ap (var_read e) action_same ∙ var_read_lem t a was e l other

      module _ (other : action_kind t a ≢ receive_kind) where
        not_so : action_kind u a ≢ receive_kind
        not_so k = other (sym kind_word_lem ∙ k)

        items_same : effect_items u a e ≡ effect_items t a e
        items_same = sym (items_read_lem u a is e low not_so) ∙ ap (items_read e) action_same ∙ items_read_lem t a was e l other

        room_t : effect_slot a e + effect_length t a e ≤ length t
        room_t = omega (arith, f.words, f.counts.actions, was.few, short_read t a was e l other)

        room_u : effect_slot a e + effect_length u a e ≤ length u
        room_u = omega (arith, h.words, f.counts.actions, was.few, short_read u a is e low not_so)

        length_word : effect_length u a e ≡ effect_length t a e
        length_word = sym (items_length u (effect_slot a e) _ room_u) ∙ ap length items_same ∙ items_length t (effect_slot a e) _ room_t

        item_word : (j : ℕ) → j < effect_length t a e → get_or u (effect_slot a e + j) 0 ≡ get_or t (effect_slot a e + j) 0
        item_word j m =
            sym (item_at u (effect_slot a e) _ room_u j (omega (arith, length_word))) ∙ ap (λ (ws : List ℕ). get_or ws j 0) items_same
            ∙ item_at t (effect_slot a e) _ room_t j m

  -- transitions
  module _ (k : ℕ) (known : k < transition_count t) where
    in_u : k < transition_count u
    in_u = omega (arith, transitions)

    transition_same_lem : transition_of u k ≡ transition_of t k
    transition_same_lem = same_row (transition_of u) (transition_of t) _ _ (ap (λ (g : Graph). g.transitions) same) k in_u

    key_word : key_of u k ≡ key_of t k
    key_word = (same_keys (key_of u k) (key_of t k)).0 (
      ap (λ (x : StoredTransition). x.pre) transition_same_lem,
      (ap (λ (x : StoredTransition). x.action) transition_same_lem, ap (λ (x : StoredTransition). x.post) transition_same_lem),
    )

    guard_t : guard_slot k + guard_length t k ≤ length t
    guard_t = omega (arith, f.words, f.counts.transitions, (s.transition k known).guard.short)

    guard_u : guard_slot k + guard_length u k ≤ length u
    guard_u = omega (arith, h.words, f.counts.transitions, (r.transition k in_u).guard.short)

    guard_same_lem : guard_items u k ≡ guard_items t k
    guard_same_lem = ap (λ (x : StoredTransition). x.guard) transition_same_lem

    guard_length_lem : guard_length u k ≡ guard_length t k
    guard_length_lem = sym (items_length u (guard_slot k) _ guard_u) ∙ ap length guard_same_lem ∙ items_length t (guard_slot k) _ guard_t

    guard_word : (j : ℕ) → j < guard_length t k → get_or u (guard_slot k + j) 0 ≡ get_or t (guard_slot k + j) 0
    guard_word j m =
        sym (item_at u (guard_slot k) _ guard_u j (omega (arith, guard_length_lem))) ∙ ap (λ (ws : List ℕ). get_or ws j 0) guard_same_lem
        ∙ item_at t (guard_slot k) _ guard_t j m

    limits_same_lem : limits_of u k (limit_count u k) ≡ limits_of t k (limit_count t k)
    limits_same_lem = ap (λ (x : StoredTransition). x.limits) transition_same_lem

    limits_are : (limits_formed t k (limit_count t k) ≡ true) × (limits_formed u k (limit_count u k) ≡ true)
    unfolding transition_formed
    limits_are = (
      and_rest _ _ (and_rest _ _ (and_rest _ _ (f.transition k known))),
      and_rest _ _ (and_rest _ _ (and_rest _ _ (h.transition k in_u))),
    )

    transition_words : (j : ℕ) → j < transition_width → get_or u (transition_row k + j) 0 ≡ get_or t (transition_row k + j) 0
    transition_words zero l = simp add-zero key_word
    transition_words (suc zero) l = guard_length_lem
    transition_words (suc (suc zero)) l = how_many t u k _ _ limits_are.0 limits_are.1 limits_same_lem
    transition_words (suc (suc (suc j))) l = absurd (omega arith)

  -- each word in use
  pub same_words : HasWords t u
  same_words i (count c l) = count_word c l
  same_words i (kind v l) = same_kind_lem t u s r (ap (λ (g : Graph). g.variables) same) v l
  same_words i (value v l) = value_word v l
  same_words i (place p l) =
      same_row (place_at u) (place_at t) _ _ (ap (λ (g : Graph). g.processes) same) p (omega (arith, processes))
  same_words i (invariants l m) = (invariant_words l m).0
  same_words i (invariant l n j m p q) = (invariant_words l m).1 n j p q
  same_words i (action a j l m) = action_words a l j m
  same_words i (reset a n l m) = same_row (reset_at u a) (reset_at t a) _ _ (resets_same a l) n (omega (arith, resets_word a l))
  same_words i (var a e l k m) = var_word a l e m k
  same_words i (long a e l k m) = length_word a l e m k
  same_words i (item a e j l k m n) = item_word a l e m k j n
  same_words i (transition k j l m) = transition_words k l j m
  same_words i (limit k n j l m p) = limit_words_lem t u k _ _ (limits_are k l).0 (limits_are k l).1 (limits_same_lem k l) n j m p
  same_words i (guard k j l m) = guard_word k l j m
