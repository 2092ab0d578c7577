-- A table that has all that another has, perhaps elsewhere, and perhaps more: what is well formed in the one is well formed in the other.
use Prim.Native.Nat.{ℕ, zero, suc, ◌+◌, ◌-◌, ◌*◌, ◌≤◌, ◌<◌}
use mathlib.Core.Path.{◌≡◌, refl, ap, ◌∙◌}
use mathlib.Core.Bool.{Bool, true, false, cond, ◌||◌}
use mathlib.Core.List.{List, ◌++◌}
use native.Mathlib.Nat.{add-zero}
use native.Mathlib.Omega.{arith}
use borrow.Author.Tests.{ltb-true, leb-true, eqb-true, lt-ltb, le-leb, eq-eqb}
use lib.Dec.{eqb, ltb}
use lib.ListN.{get_or, take, drop, length, length-take, length-drop}
use lib.Seq.{ext_get_or, get_or-take, get_or-drop, take-add}
use Rattle.laws.specs.Below.{all_below, sum_below}
use Rattle.laws.proofs.BelowLaws.{and_first, and_rest, and_both, and_kept, all_at, all_from, all_kept, sum_same}
use Rattle.grammar.specs.Draws.{draws_of}
use Rattle.grammar.specs.Typing.{type_of, is_typed, typed_as}
use Rattle.grammar.proofs.MoreKinds.{type_more}
use Rattle.grammar.specs.declared.values.«Type».{«Type» as Kind}
use Rattle.grammar.specs.declared.typing.Typed.{Typed}
use Rattle.grammar.specs.declared.typing.Typed.TheVariants.{Known, IllTyped, TableFull, TooDeep}
use Rattle.graph_tables.specs.Layout.{kinds_start, action_width, transition_width, limit_width, group_width, resets_from, vars_from}
use Rattle.graph_tables.specs.Layout.{lengths_from, action_row, transition_row, group_start, guard_slot, effect_slot}
use Rattle.graph_tables.specs.Sizes.{action_room, transition_room, variable_room, limit_room, effect_room, reset_room, message_room}
use Rattle.graph_tables.specs.Sizes.{item_room, plain_kind, send_kind}
use Rattle.graph_tables.specs.Words.{Words, variable_count, clock_count, location_count, action_count, process_count, transition_count}
use Rattle.graph_tables.specs.Words.{kind_at, kinds_of, value_at, place_at, invariant_count, action_kind, reset_count, effect_count, reset_at}
use Rattle.graph_tables.specs.Words.{effect_var, effect_length, key_of, guard_length, limit_count, pre_of, action_of, post_of, clock_of}
use Rattle.graph_tables.specs.Words.{lower_of, upper_of, guard_items, effect_items, epsilon, invariant_group}
use Rattle.graph_tables.specs.Formed.{counts_formed, variable_formed, clock_before, limit_formed, limits_formed, location_formed}
use Rattle.graph_tables.specs.Formed.{zero_inside, process_formed, reset_before, reset_formed, resets_formed, effect_formed, effect_draws}
use Rattle.graph_tables.specs.Formed.{plain_formed, expression_formed, send_formed, target_formed, receive_formed, action_formed}
use Rattle.graph_tables.specs.Formed.{action_known, key_formed, key_before, guard_formed, transition_formed, parts_formed, started_of}
use Rattle.graph_tables.specs.Formed.{well_formed}
use Rattle.graph_tables.specs.Sound.{Counted}
use Rattle.graph_tables.proofs.FormedLaws.{few_limits, short_effects, short_expressions, counted}

-- ---- a well-formed table, part by part
pub record Formed (t : List ℕ) : Type 0 where
  pub words : Words t
  pub counts : Counted t
  pub variable : (v : ℕ) → v < variable_count t → variable_formed t v ≡ true
  pub location : (l : ℕ) → l < location_count t → location_formed t l ≡ true
  pub process : (p : ℕ) → p < process_count t → process_formed t p ≡ true
  pub action : (a : ℕ) → a < action_count t → action_formed t a ≡ true
  pub transition : (k : ℕ) → k < transition_count t → transition_formed t k ≡ true

-- from the test to the parts, and back for a table that may still lack a process
pub apart : (t : List ℕ) (building : Bool) → well_formed t building ≡ true → Formed t
unfolding well_formed parts_formed
apart t building h =
    let p : parts_formed t ≡ true = and_rest _ _ (and_rest _ _ (and_rest _ _ h)) in
    record {
      words = eqb-true _ _ (and_first _ _ h);
      counts = counted t (and_first _ _ (and_rest _ _ h));
      variable = λ v. all_at (variable_formed t) _ v (and_first _ _ p);
      location = λ l. all_at (location_formed t) _ l (and_first _ _ (and_rest _ _ p));
      process = λ i. all_at (process_formed t) _ i (and_first _ _ (and_rest _ _ (and_rest _ _ p)));
      action = λ a. all_at (action_formed t) _ a (and_first _ _ (and_rest _ _ (and_rest _ _ (and_rest _ _ p))));
      transition = λ k. all_at (transition_formed t) _ k (and_rest _ _ (and_rest _ _ (and_rest _ _ (and_rest _ _ p))));
    }

counts_formed_lem : (t : List ℕ) → Counted t → counts_formed t ≡ true
unfolding counts_formed
counts_formed_lem t c =
    and_both (le-leb _ _ c.variables)
    (and_both (le-leb _ _ c.clocks)
    (and_both (le-leb _ _ c.locations)
    (and_both (le-leb _ _ c.actions) (and_both (le-leb _ _ c.processes) (le-leb _ _ c.transitions)))))

pub together : (t : List ℕ) → Formed t → well_formed t true ≡ true
unfolding well_formed started_of parts_formed
together t f =
    and_both (eq-eqb _ _ f.words)
    (and_both (counts_formed_lem t f.counts)
    (and_both refl
    (and_both (all_from (variable_formed t) _ f.variable)
    (and_both (all_from (location_formed t) _ f.location)
    (and_both (all_from (process_formed t) _ f.process)
    (and_both (all_from (action_formed t) _ f.action) (all_from (transition_formed t) _ f.transition)))))))

-- ---- u has what t has, and perhaps more
pub record Grown (t u : List ℕ) : Type 0 where
  pub words : Words t
  pub grown_words : Words u
  pub variables : variable_count t ≤ variable_count u
  pub few : variable_count u ≤ variable_room
  pub kinds : (v : ℕ) → v < variable_count t → kind_at u v ≡ kind_at t v
  pub clocks : clock_count t ≤ clock_count u
  pub locations : location_count t ≤ location_count u
  pub actions : action_count t ≤ action_count u

-- n words of t from a place on stand in u from another place on
abbrev pub Moved : List ℕ → List ℕ → ℕ → ℕ → ℕ → Type 0
Moved t u from to n = (j : ℕ) → j < n → get_or u (to + j) 0 ≡ get_or t (from + j) 0

-- one of them, wherever it is said to stand
pub word_moved : (t u : List ℕ) (from to n j p q : ℕ) → Moved t u from to n → j < n → p ≡ to + j → q ≡ from + j → get_or u p 0 ≡ get_or t q 0
word_moved t u from to n j p q moved l e f = rw (e, f) (moved j l)

-- the first m of them
pub items_moved : (t u : List ℕ) (from to n m : ℕ) → m ≤ n → from + n ≤ length t → to + n ≤ length u → Moved t u from to n
    → take m (drop to u) ≡ take m (drop from t)
items_moved t u from to n m l in-t in_u moved = ext_get_or 0 _ _ same each
  where
    same : length (take m (drop to u)) ≡ length (take m (drop from t))
    same = simp (length-take, length-drop) (omega arith)

    each : (i : ℕ) → i < length (take m (drop to u)) → get_or (take m (drop to u)) i 0 ≡ get_or (take m (drop from t)) i 0
    each i h =
        let k : i < m = omega (arith, length-take m (drop to u)) in
        simp (get_or-take, get_or-drop) (moved i (omega arith))

-- a number below a bound is below a higher one
below_kept : (x : ℕ) {a b : ℕ} → a ≤ b → ltb x a ≡ true → ltb x b ≡ true
below_kept x {a} {b} l h = let k : x < a = ltb-true x a h in lt-ltb x b (omega arith)

-- a choice by the same test
pub choice_kept : (test : Bool) {a b c d : Bool} → (a ≡ true → c ≡ true) → (b ≡ true → d ≡ true) → cond test a b ≡ true → cond test c d ≡ true
choice_kept true f g h = f h
choice_kept false f g h = g h

-- ---- variables
pub variable_kept : (t u : List ℕ) (v : ℕ) → kind_at u v ≡ kind_at t v → value_at u v ≡ value_at t v → variable_formed t v ≡ true
    → variable_formed u v ≡ true
unfolding variable_formed
variable_kept t u v kind value h = rw (kind, value) h

-- ---- limits: group g of t is group h of u
abbrev pub GroupMoved : List ℕ → List ℕ → ℕ → ℕ → Type 0
GroupMoved t u g h = Moved t u (group_start g) (group_start h) group_width

module _ (t u : List ℕ) (g h : ℕ) (moved : GroupMoved t u g h) where
  pub clock_moved : (i : ℕ) → i < limit_room → clock_of u h i ≡ clock_of t g i
  clock_moved i l = moved (limit_width * i) (omega arith)

  pub lower_moved : (i : ℕ) → i < limit_room → lower_of u h i ≡ lower_of t g i
  lower_moved i l = word_moved t u _ _ group_width (limit_width * i + 1) _ _ moved (omega arith) (omega arith) (omega arith)

  pub upper_moved : (i : ℕ) → i < limit_room → upper_of u h i ≡ upper_of t g i
  upper_moved i l = word_moved t u _ _ group_width (limit_width * i + 2) _ _ moved (omega arith) (omega arith) (omega arith)

  before_moved : (i : ℕ) → i < limit_room → clock_before u h i ≡ clock_before t g i
  before_moved zero l = refl
  before_moved (suc i) l = clock_moved i (omega arith)

  pub zero_kept : (i : ℕ) → i < limit_room → zero_inside u h i ≡ zero_inside t g i
  unfolding zero_inside
  zero_kept i l = rw (lower_moved i l, upper_moved i l)

  limit_kept : clock_count t ≤ clock_count u → (i : ℕ) → i < limit_room → limit_formed t g i ≡ true → limit_formed u h i ≡ true
  unfolding limit_formed
  limit_kept more i l f =
      rw (clock_moved i l, lower_moved i l, upper_moved i l, before_moved i l) (and_kept (below_kept (clock_of t g i) more) (λ r. r) f)

module _ {t u : List ℕ} (grown : Grown t u) where
  pub limits_kept : (g h n : ℕ) → GroupMoved t u g h → limits_formed t g n ≡ true → limits_formed u h n ≡ true
  unfolding limits_formed
  limits_kept g h n moved f =
      let few : n ≤ limit_room = few_limits t g n f in
      and_kept (λ r. r) (all_kept (limit_formed t g) (limit_formed u h) n (λ i l. limit_kept t u g h moved grown.clocks i (omega arith))) f

  -- ---- locations and processes
  pub location_kept : (l : ℕ) → invariant_count u l ≡ invariant_count t l → GroupMoved t u (invariant_group l) (invariant_group l)
      → location_formed t l ≡ true → location_formed u l ≡ true
  unfolding location_formed
  location_kept l count moved f = rw count (limits_kept (invariant_group l) (invariant_group l) (invariant_count t l) moved f)

  pub process_kept : (p : ℕ) → place_at u p ≡ place_at t p → invariant_count u (place_at t p) ≡ invariant_count t (place_at t p)
      → GroupMoved t u (invariant_group (place_at t p)) (invariant_group (place_at t p)) → invariant_count t (place_at t p) ≤ limit_room
      → process_formed t p ≡ true → process_formed u p ≡ true
  unfolding process_formed
  process_kept p place count moved few f =
      let l = place_at t p in
      rw (place, count)
      (and_kept (below_kept l grown.locations)
      (all_kept (zero_inside t (invariant_group l)) (zero_inside u (invariant_group l)) (invariant_count t l)
      (λ i k z. zero_kept t u (invariant_group l) (invariant_group l) moved i (omega arith) ∙ z))
      f)

-- ---- the kinds of variables and of expressions
is_typed_lem : (w : ℕ) (x : Typed) → typed_as w x ≡ true → is_typed x ≡ true
is_typed_lem w (Known k) h = refl
is_typed_lem w IllTyped h = h
is_typed_lem w TableFull h = h
is_typed_lem w (TooDeep k) h = h

-- an answer that is a kind, and one that is any kind that the first is
same_answer : (x y : Typed) → ((k : Kind) → x ≡ Known k → y ≡ Known k) → is_typed x ≡ true → y ≡ x
same_answer (Known k) y f h = f k refl
same_answer IllTyped y f h = cc
same_answer TableFull y f h = cc
same_answer (TooDeep k) y f h = cc

module _ {t u : List ℕ} (grown : Grown t u) where
  pub kinds_grown : (more : List ℕ) × (kinds_of u ≡ kinds_of t ++ more)
  kinds_grown =
      let n = variable_count t in
      let m = variable_count u - n in
      let more = take m (drop n (drop kinds_start u)) in
      let sum : variable_count u ≡ n + m = omega arith in
      let front : take n (drop kinds_start u) ≡ kinds_of t =
      items_moved t u kinds_start kinds_start n n (omega arith) (omega arith) (omega arith) grown.kinds in
      (more, ap (λ (k : ℕ). take k (drop kinds_start u)) sum ∙ take-add n m (drop kinds_start u) ∙ ap (λ (l : List ℕ). l ++ more) front)

  pub typed_grown : (ws : List ℕ) (k : Kind) → type_of (kinds_of t) ws ≡ Known k → type_of (kinds_of u) ws ≡ Known k
  typed_grown ws k h = let g = kinds_grown in rw g.1 (type_more (kinds_of t) g.0 ws k h)

  same_type : (ws : List ℕ) → is_typed (type_of (kinds_of t) ws) ≡ true → type_of (kinds_of u) ws ≡ type_of (kinds_of t) ws
  same_type ws h = same_answer (type_of (kinds_of t) ws) (type_of (kinds_of u) ws) (typed_grown ws) h

  pub typed_as_grown : (w : ℕ) (ws : List ℕ) → typed_as w (type_of (kinds_of t) ws) ≡ true → typed_as w (type_of (kinds_of u) ws) ≡ true
  typed_as_grown w ws h = rw (same_type ws (is_typed_lem w (type_of (kinds_of t) ws) h)) h

  pub is_typed_grown : (ws : List ℕ) → is_typed (type_of (kinds_of t) ws) ≡ true → is_typed (type_of (kinds_of u) ws) ≡ true
  is_typed_grown ws h = rw (same_type ws h) h

-- ---- actions
-- expression e of action a has the same items
abbrev pub ItemsKept : List ℕ → List ℕ → ℕ → ℕ → Type 0
ItemsKept t u a e = Moved t u (effect_slot a e) (effect_slot a e) item_room

few_resets : (t : List ℕ) (a : ℕ) → resets_formed t a ≡ true → reset_count t a ≤ reset_room
unfolding resets_formed
few_resets t a h = leb-true _ _ (and_first _ _ h)

module _ {t u : List ℕ} (grown : Grown t u) (a : ℕ) where
  before_kept : (n : ℕ) → ((i : ℕ) → i < n → reset_at u a i ≡ reset_at t a i) → (i : ℕ) → i < n → reset_before u a i ≡ reset_before t a i
  before_kept n same zero l = refl
  before_kept n same (suc i) l = same i (omega arith)

  pub resets_kept : reset_count u a ≡ reset_count t a → ((i : ℕ) → i < reset_count t a → reset_at u a i ≡ reset_at t a i)
      → resets_formed t a ≡ true → resets_formed u a ≡ true
  unfolding resets_formed reset_formed
  resets_kept count same h =
      rw count
      (and_kept (λ r. r)
      (all_kept (reset_formed t a) (reset_formed u a) (reset_count t a)
      (λ i l f. rw (same i l, before_kept (reset_count t a) same i l) (and_kept (below_kept (reset_at t a i) grown.clocks) (λ r. r) f)))
      h)

  pub target_kept : (e : ℕ) → effect_var u a e ≡ effect_var t a e → target_formed t a e ≡ true → target_formed u a e ≡ true
  unfolding target_formed
  target_kept e var h = rw var (below_kept (effect_var t a e) grown.variables h)

  module _ (known : a < action_room) where
    -- expression e, of the same length, with the same items
    module _ (e : ℕ) (room : e < effect_room) (same : effect_length u a e ≡ effect_length t a e) (items : ItemsKept t u a e) where
      pub items_kept : effect_length t a e ≤ item_room → effect_items u a e ≡ effect_items t a e
      items_kept few =
          rw same (items_moved t u (effect_slot a e) (effect_slot a e) item_room (effect_length t a e) few (omega arith) (omega arith) items)

      pub effect_kept : effect_var u a e ≡ effect_var t a e → effect_formed t a e ≡ true → effect_formed u a e ≡ true
      unfolding effect_formed
      effect_kept var h =
          let v = effect_var t a e in
          let l : v < variable_count t = ltb-true _ _ (and_first _ _ h) in
          rw (items_kept (leb-true _ _ (and_first _ _ (and_rest _ _ h))), var, same, grown.kinds v l)
          (and_kept (below_kept v grown.variables) (and_kept (λ r. r) (typed_as_grown grown (kind_at t v) (effect_items t a e))) h)

      pub expression_kept : expression_formed t a e ≡ true → expression_formed u a e ≡ true
      unfolding expression_formed
      expression_kept h =
          rw (items_kept (leb-true _ _ (and_first _ _ h)), same) (and_kept (λ r. r) (is_typed_grown grown (effect_items t a e)) h)

    -- the first n expressions, of the same lengths, with the same items
    module _ (n : ℕ) (room : n ≤ effect_room) (same : (e : ℕ) → e < n → effect_length u a e ≡ effect_length t a e)
        (items : (e : ℕ) → e < n → ItemsKept t u a e) where
      pub effects_kept : ((e : ℕ) → e < n → effect_var u a e ≡ effect_var t a e) → all_below n (effect_formed t a) ≡ true
          → all_below n (effect_formed u a) ≡ true
      effects_kept vars =
          all_kept (effect_formed t a) (effect_formed u a) n (λ e l. effect_kept e (omega arith) (same e l) (items e l) (vars e l))

      pub expressions_kept : all_below n (expression_formed t a) ≡ true → all_below n (expression_formed u a) ≡ true
      expressions_kept =
          all_kept (expression_formed t a) (expression_formed u a) n (λ e l. expression_kept e (omega arith) (same e l) (items e l))

      pub draws_kept : ((e : ℕ) → e < n → effect_length t a e ≤ item_room) → sum_below n (effect_draws u a) ≡ sum_below n (effect_draws t a)
      unfolding effect_draws
      draws_kept few =
          sum_same (effect_draws u a) (effect_draws t a) n (λ e l. ap draws_of (items_kept e (omega arith) (same e l) (items e l) (few e l)))

    -- the whole action, word by word
    module _ (row : Moved t u (action_row a) (action_row a) action_width) (items : (e : ℕ) → e < effect_room → ItemsKept t u a e) where
      pub kind_word_lem : action_kind u a ≡ action_kind t a
      kind_word_lem = simp add-zero at (row 0 (omega arith))

      reset_word : reset_count u a ≡ reset_count t a
      reset_word = row 1 (omega arith)

      pub count_word : effect_count u a ≡ effect_count t a
      count_word = row 2 (omega arith)

      pub var_word : (e : ℕ) → e < effect_room → effect_var u a e ≡ effect_var t a e
      var_word e l = row (vars_from + e) (omega arith)

      pub length_word : (e : ℕ) → e < effect_room → effect_length u a e ≡ effect_length t a e
      length_word e l = row (lengths_from + e) (omega arith)

      plain_kept : plain_formed t a ≡ true → plain_formed u a ≡ true
      unfolding plain_formed
      plain_kept h =
          let n = effect_count t a in
          let few : n ≤ effect_room = leb-true _ _ (and_first _ _ (and_rest _ _ h)) in
          let most : reset_count t a ≤ reset_room = few_resets t a (and_first _ _ h) in
          let same : (e : ℕ) → e < n → effect_length u a e ≡ effect_length t a e = λ e l. length_word e (omega arith) in
          let each : (e : ℕ) → e < n → ItemsKept t u a e = λ e l. items e (omega arith) in
          rw (count_word, draws_kept n few same each (short_effects t a n (and_first _ _ (and_rest _ _ (and_rest _ _ h)))))
          (and_kept (resets_kept reset_word (λ i l. row (resets_from + i) (omega arith)))
          (and_kept (λ r. r) (and_kept (effects_kept n few same each (λ e l. var_word e (omega arith))) (λ r. r)))
          h)

      send_kept : send_formed t a ≡ true → send_formed u a ≡ true
      unfolding send_formed
      send_kept h =
          let n = effect_count t a in
          let few : n ≤ message_room = leb-true _ _ (and_first _ _ (and_rest _ _ h)) in
          let same : (e : ℕ) → e < n → effect_length u a e ≡ effect_length t a e = λ e l. length_word e (omega arith) in
          let each : (e : ℕ) → e < n → ItemsKept t u a e = λ e l. items e (omega arith) in
          rw (
            reset_word,
            count_word,
            draws_kept n (omega arith) same each
                (short_expressions t a n (and_first _ _ (and_rest _ _ (and_rest _ _ h)))),
          )
          (and_kept (λ r. r) (and_kept (λ r. r) (and_kept (expressions_kept n (omega arith) same each) (λ r. r))) h)

      receive_kept : receive_formed t a ≡ true → receive_formed u a ≡ true
      unfolding receive_formed
      receive_kept h =
          let n = effect_count t a in
          let few : n ≤ message_room = leb-true _ _ (and_first _ _ (and_rest _ _ h)) in
          rw (reset_word, count_word)
          (and_kept (λ r. r)
          (and_kept (λ r. r) (all_kept (target_formed t a) (target_formed u a) n (λ e l. target_kept e (var_word e (omega arith))))) h)

      pub action_kept : action_formed t a ≡ true → action_formed u a ≡ true
      unfolding action_formed
      action_kept h =
          rw kind_word_lem
          (choice_kept (eqb (action_kind t a) plain_kind) plain_kept
          (choice_kept (eqb (action_kind t a) send_kind) send_kept (and_kept (λ r. r) receive_kept)) h)

-- ---- transitions
module _ {t u : List ℕ} (grown : Grown t u) where
  known_kept : (a : ℕ) → action_known t a ≡ true → action_known u a ≡ true
  unfolding action_known
  known_kept a h = by (eqb a epsilon) h
    where
      by : (test : Bool) → (test || ltb a (action_count t)) ≡ true → (test || ltb a (action_count u)) ≡ true
      by true f = refl
      by false f = below_kept a grown.actions f

  pub key_kept : (key : ℕ) → key_formed t key ≡ true → key_formed u key ≡ true
  unfolding key_formed
  key_kept key h =
      and_kept (below_kept (pre_of key) grown.locations)
      (and_kept (below_kept (post_of key) grown.locations) (known_kept (action_of key))) h

  -- transition k of t is transition m of u
  module _ (k m : ℕ) (in-t : k < transition_room) (in_u : m < transition_room) where
    pub guard_kept : guard_length u m ≡ guard_length t k → Moved t u (guard_slot k) (guard_slot m) item_room → guard_formed t k ≡ true
        → guard_formed u m ≡ true
    unfolding guard_formed
    guard_kept same items h =
        rw same
        (choice_kept (eqb (guard_length t k) 0) (λ r. r)
        (λ f.
        let few : guard_length t k ≤ item_room = leb-true _ _ (and_first _ _ f) in
        rw (items_moved t u (guard_slot k) (guard_slot m) item_room (guard_length t k) few (omega arith) (omega arith) items)
        (and_kept (λ r. r) (and_kept (typed_as_grown grown 0 (guard_items t k)) (λ r. r)) f))
        h)

    pub transition_kept : Moved t u (transition_row k) (transition_row m) transition_width → GroupMoved t u k m
        → Moved t u (guard_slot k) (guard_slot m) item_room
        → key_before u m ≤ key_of u m → transition_formed t k ≡ true → transition_formed u m ≡ true
    unfolding transition_formed
    transition_kept row group items order h =
        let key : key_of u m ≡ key_of t k = simp add-zero at (row 0 (omega arith)) in
        let guard : guard_length u m ≡ guard_length t k = row 1 (omega arith) in
        let count : limit_count u m ≡ limit_count t k = row 2 (omega arith) in
        and_kept (λ f. rw key (key_kept (key_of t k) f))
        (and_kept (λ f. le-leb _ _ order)
        (and_kept (guard_kept guard items) (λ f. rw count (limits_kept grown k m (limit_count t k) group f))))
        h
