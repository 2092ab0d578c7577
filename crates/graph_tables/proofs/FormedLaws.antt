-- What a table that is well formed says of its parts.
use Prim.Native.Nat.{ℕ, ◌+◌, ◌*◌, ◌/◌, ◌%◌, ◌≤◌, ◌<◌}
use mathlib.Core.Path.{◌≡◌, refl, sym, ap, ◌∙◌}
use mathlib.Core.Bool.{Bool, true, false, cond}
use mathlib.Core.List.{List}
use native.Mathlib.Decide.{dec_lt}
use native.Mathlib.Omega.{arith}
use borrow.Author.Tests.{ltb-true, leb-true, eqb-true, eq-eqb, ne_eqb, lt-ltb, le-ltb, le-leb, lt-leb}
use lib.Dec.{eqb, ltb, leb}
use lib.ListN.{length, take, drop, length-take, length-drop}
use Rattle.laws.specs.Below.{◌and◌, all_below, sum_below}
use Rattle.laws.proofs.BelowLaws.{and_yes, and_no, and_first, and_rest, all_none, all_more, all_fails, all_done, all_at, sum_none, sum_more}
use Rattle.laws.proofs.Tests.{held, failed}
use Rattle.grammar.specs.Draws.{draws_of}
use Rattle.grammar.specs.Typing.{type_of, typed_as, is_typed}
use Rattle.grammar.specs.Inner.{known_in, is_of, is_known, draws_told, guards_of}
use Rattle.grammar.proofs.DrawLaws.{draws_few}
use Rattle.grammar.proofs.KnownLaws.{of_kind, of_any_kind, with_draws, no_guard, some_guard, as_typed}
use Rattle.graph_tables.specs.Sizes.{limit_room, item_room, draw_room, word32, boolean_kind, integer_kind}
use Rattle.graph_tables.specs.Layout.{effect_slot, bound_span, unbounded_kind, spare_kind}
use Rattle.graph_tables.specs.Words.{variable_count, kind_at, kinds_of, value_at, invariant_count, effect_var, effect_length, effect_items}
use Rattle.graph_tables.specs.Words.{invariant_group}
use Rattle.graph_tables.specs.Formed.{counts_formed, variable_formed, bound_formed, limit_formed, limits_formed, location_formed}
use Rattle.graph_tables.specs.Formed.{effect_formed}
use Rattle.graph_tables.specs.Formed.{effect_draws, expression_formed}
use Rattle.graph_tables.specs.Sound.{Counted, KindsFit, BoundsFit}
use Rattle.graph_tables.specs.Inner.{known_at, draws_if, all_within}

-- ---- a loop that tests one part a turn: it stops at a part that fails, goes on past one that holds, and ends when all hold
module _ (p : ℕ → Bool) where
  pub turn_fails : {r : Bool} (n i : ℕ) → i < n → r ≡ p i → r ≡ false → false ≡ all_below n p
  turn_fails n i l e f = sym (all_fails p n i l (failed e f))

  pub turn_holds : {r : Bool} (n i : ℕ) → i < n → all_below i p ≡ true → r ≡ p i → r ≡ true → (i + 1 ≤ n) × (all_below (i + 1) p ≡ true)
  turn_holds n i l h e f = (omega arith, all_more p i h (held e f))

  pub turns_end : (n i : ℕ) → i ≤ n → n ≤ i → all_below i p ≡ true → true ≡ all_below n p
  turns_end n i l m h = sym (all_done p n i l m h)

-- ---- a loop that adds up the draws of what is well formed
pub draws_not : {b : Bool} (x : ℕ) → b ≡ false → draw_room + 1 ≡ draws_if b x
draws_not x e = rw e

pub draws_told_lem : {b : Bool} {r x : ℕ} → b ≡ true → r ≡ x → r ≡ draws_if b x
draws_told_lem e q = rw e q

told_not : (b : Bool) (r x : ℕ) → (b ≡ true → x ≤ draw_room) → r ≡ draws_if b x → draw_room < r → b ≡ false
told_not true r x few e h = absurd (omega (arith, few refl))
told_not false r x few e h = refl

told : (b : Bool) (r x : ℕ) → r ≡ draws_if b x → r ≤ draw_room → (b ≡ true) × (r ≡ x)
told true r x e h = (refl, e)
told false r x e h = absurd (omega arith)

module _ (p : ℕ → Bool) (d : ℕ → ℕ) where
  abbrev pub Sums : ℕ → ℕ → ℕ → Type 0
  Sums n sum i = (i ≤ n) × (sum ≤ draw_room * i) × (all_below i p ≡ true) × (sum ≡ sum_below i d)

  pub sums_none : (n : ℕ) → Sums n 0 0
  sums_none n = (omega arith, omega arith, all_none p, sym (sum_none d))

  pub sums_fail : (few : (i : ℕ) → p i ≡ true → d i ≤ draw_room) (n i r : ℕ) → i < n → r ≡ draws_if (p i) (d i) → draw_room < r
      → false ≡ all_within n p d
  sums_fail few n i r l e h = and_no _ (all_fails p n i l (told_not (p i) r (d i) (few i) e h))

  pub sums_more : (n i r sum : ℕ) → i < n → Sums n sum i → r ≡ draws_if (p i) (d i) → r ≤ draw_room → Sums n (sum + r) (i + 1)
  sums_more n i r sum l s e h =
      let q = told (p i) r (d i) e h in
      (omega arith, omega (arith, s.1), all_more p i s.2 q.0, omega (arith, s.3, q.1, sum_more d i))

  pub sums_end : (n i sum : ℕ) → n ≤ i → Sums n sum i → leb sum draw_room ≡ all_within n p d
  sums_end n i sum m s =
      let q : i ≡ n = omega (arith, s.0) in
      and_yes (all_done p n i s.0 m s.2) (ap (λ (k : ℕ). leb k draw_room) (s.3 ∙ ap (λ (k : ℕ). sum_below k d) q))

-- ---- an expression, by the number that says its kind and its draws
module _ (t : List ℕ) (n from : ℕ) where
  of_known : (k : ℕ) → k < 2 → is_of (known_at t n from) k ≡ (leb n item_room and typed_as k (type_of (kinds_of t) (take n (drop from t))))
  unfolding known_at ◌and◌
  of_known k h = by (leb n item_room)
    where
      by : (b : Bool)
          → is_of (cond b (known_in (kinds_of t) (take n (drop from t))) 3) k ≡ (b and typed_as k (type_of (kinds_of t) (take n (drop from t))))
      by true = of_kind (kinds_of t) (take n (drop from t)) k h
      by false = ne_eqb 3 (k + 1) (λ e. omega arith)

  any_known : is_known (known_at t n from) ≡ (leb n item_room and is_typed (type_of (kinds_of t) (take n (drop from t))))
  unfolding known_at ◌and◌
  any_known = by (leb n item_room)
    where
      by : (b : Bool)
          → is_known (cond b (known_in (kinds_of t) (take n (drop from t))) 3) ≡ (b and is_typed (type_of (kinds_of t) (take n (drop from t))))
      by true = of_any_kind (kinds_of t) (take n (drop from t))
      by false = refl

  draws_known : leb n item_room ≡ true → is_typed (type_of (kinds_of t) (take n (drop from t))) ≡ true
      → draws_told (known_at t n from) ≡ draws_of (take n (drop from t))
  unfolding known_at
  draws_known e h = rw e (with_draws (kinds_of t) (take n (drop from t)) h)

  pub guard_known : from + item_room ≤ length t → guards_of (known_at t n from) ≡
      cond (eqb n 0) true
      (leb n item_room and typed_as 0 (type_of (kinds_of t) (take n (drop from t))) and eqb (draws_of (take n (drop from t))) 0)
  unfolding known_at ◌and◌
  guard_known room = by (dec_lt 0 n) (dec_lt item_room n)
    where
      by : Dec (0 < n) → Dec (item_room < n) → guards_of (cond (leb n item_room) (known_in (kinds_of t) (take n (drop from t))) 3) ≡
          cond (eqb n 0) true
          (leb n item_room and typed_as 0 (type_of (kinds_of t) (take n (drop from t))) and eqb (draws_of (take n (drop from t))) 0)
      by (no z) m =
          rw (le-leb n item_room (omega arith), eq-eqb n 0 (omega arith)) (no_guard (kinds_of t) (take n (drop from t))
          (omega (arith, length-take n (drop from t))))
      by (yes z) (yes m) = rw (lt-leb n item_room m, ne_eqb n 0 (λ e. omega arith))
      by (yes z) (no m) =
          rw (le-leb n item_room (omega arith), ne_eqb n 0 (λ e. omega arith))
          (some_guard (kinds_of t) (take n (drop from t)) (omega (arith, length-take n (drop from t), length-drop from t)))

-- ---- the kinds of the variables
kind_small : (k x : ℕ) (b : Bool) → eqb k boolean_kind ≡ b → cond b (ltb x 2) (eqb k integer_kind and ltb x word32) ≡ true → k < 2
kind_small k x true z e = let q : k ≡ boolean_kind = eqb-true k boolean_kind z in omega arith
kind_small k x false z e = let q : k ≡ integer_kind = eqb-true k integer_kind (and_first _ _ e) in omega arith

pub kinds_fit : (t : List ℕ) → all_below (variable_count t) (variable_formed t) ≡ true → KindsFit t
unfolding variable_formed
kinds_fit t h v l =
    kind_small (kind_at t v) (value_at t v) (eqb (kind_at t v) boolean_kind) refl (all_at (variable_formed t) (variable_count t) v h l)

-- ---- the time of a bound fits
pub bound_fits : (w : ℕ) → bound_formed w ≡ true → w / bound_span < word32
unfolding bound_formed
bound_fits w h = by_zero (eqb w unbounded_kind) refl h
  where
    no : {A : Type 0} → false ≡ true → A
    no e = let z : ◌≡◌ {A = ℕ} 0 1 = cc in absurd (omega arith)

    by_three : (t : Bool) → cond t false (ltb (w / bound_span) word32) ≡ true → w / bound_span < word32
    by_three true e = no e
    by_three false e = ltb-true _ _ e

    by_kind : (t : Bool) → cond t false (cond (eqb (w % bound_span) spare_kind) false (ltb (w / bound_span) word32)) ≡ true
        → w / bound_span < word32
    by_kind true e = no e
    by_kind false e = by_three (eqb (w % bound_span) spare_kind) e

    by_zero : (t : Bool) → eqb w unbounded_kind ≡ t
        → cond t true
        (cond (eqb (w % bound_span) unbounded_kind) false
        (cond (eqb (w % bound_span) spare_kind) false (ltb (w / bound_span) word32))) ≡ true → w / bound_span < word32
    by_zero true z e = let q : w ≡ 0 = eqb-true w unbounded_kind z in omega arith
    by_zero false z e = by_kind (eqb (w % bound_span) unbounded_kind) e

pub limit_fits : (t : List ℕ) (g i : ℕ) → limit_formed t g i ≡ true → BoundsFit t g i
unfolding limit_formed
limit_fits t g i h = (bound_fits _ (and_first _ _ (and_rest _ _ h)), bound_fits _ (and_first _ _ (and_rest _ _ (and_rest _ _ h))))

-- the limits of a group: few, each with bounds that fit
pub few_limits : (t : List ℕ) (g n : ℕ) → limits_formed t g n ≡ true → n ≤ limit_room
unfolding limits_formed
few_limits t g n h = leb-true _ _ (and_first _ _ h)

pub limits_fit : (t : List ℕ) (g n : ℕ) → limits_formed t g n ≡ true → (i : ℕ) → i < n → BoundsFit t g i
unfolding limits_formed
limits_fit t g n h i l = limit_fits t g i (all_at (limit_formed t g) n i (and_rest _ _ h) l)

pub no_limits_lem : (t : List ℕ) (g n : ℕ) → n ≡ 0 → true ≡ limits_formed t g n
unfolding limits_formed
no_limits_lem t g n e =
    and_yes (le-leb n limit_room (omega arith)) (sym (ap (λ (k : ℕ). all_below k (limit_formed t g)) e ∙ all_none (limit_formed t g)))

pub location_limits : (t : List ℕ) (n l : ℕ) → all_below n (location_formed t) ≡ true → l < n
    → limits_formed t (invariant_group l) (invariant_count t l) ≡ true
unfolding location_formed
location_limits t n l h m = all_at (location_formed t) n l h m

-- ---- the expressions of an action: they are short
pub short_effects : (t : List ℕ) (a n : ℕ) → all_below n (effect_formed t a) ≡ true → (e : ℕ) → e < n → effect_length t a e ≤ item_room
unfolding effect_formed
short_effects t a n h e l = leb-true _ _ (and_first _ _ (and_rest _ _ (all_at (effect_formed t a) n e h l)))

pub short_expressions : (t : List ℕ) (a n : ℕ) → all_below n (expression_formed t a) ≡ true → (e : ℕ) → e < n → effect_length t a e ≤ item_room
unfolding expression_formed
short_expressions t a n h e l = leb-true _ _ (and_first _ _ (all_at (expression_formed t a) n e h l))

-- what is told of them
module _ (t : List ℕ) (a e : ℕ) where
  short_draws : effect_length t a e ≤ item_room → effect_draws t a e ≤ draw_room
  unfolding effect_draws
  short_draws h = omega (arith, draws_few (effect_items t a e), length-take (effect_length t a e) (drop (effect_slot a e) t))

  pub effect_known : effect_var t a e < variable_count t → kind_at t (effect_var t a e) < 2
      → is_of (known_at t (effect_length t a e) (effect_slot a e)) (kind_at t (effect_var t a e)) ≡ effect_formed t a e
  unfolding effect_formed
  effect_known h k = and_yes (lt-ltb _ _ h) (of_known t (effect_length t a e) (effect_slot a e) (kind_at t (effect_var t a e)) k)

  pub effect_unknown : variable_count t ≤ effect_var t a e → effect_formed t a e ≡ false
  unfolding effect_formed
  effect_unknown h = sym (and_no _ (le-ltb _ _ h))

  pub effect_few : effect_formed t a e ≡ true → effect_draws t a e ≤ draw_room
  unfolding effect_formed
  effect_few h = short_draws (leb-true _ _ (and_first _ _ (and_rest _ _ h)))

  pub effect_told : effect_formed t a e ≡ true → draws_told (known_at t (effect_length t a e) (effect_slot a e)) ≡ effect_draws t a e
  unfolding effect_formed effect_draws
  effect_told h =
      draws_known t (effect_length t a e) (effect_slot a e) (and_first _ _ (and_rest _ _ h))
      (as_typed (type_of (kinds_of t) (effect_items t a e)) (kind_at t (effect_var t a e)) (and_rest _ _ (and_rest _ _ h)))

  pub expression_known : is_known (known_at t (effect_length t a e) (effect_slot a e)) ≡ expression_formed t a e
  unfolding expression_formed
  expression_known = any_known t (effect_length t a e) (effect_slot a e)

  pub expression_few : expression_formed t a e ≡ true → effect_draws t a e ≤ draw_room
  unfolding expression_formed
  expression_few h = short_draws (leb-true _ _ (and_first _ _ h))

  pub expression_told : expression_formed t a e ≡ true → draws_told (known_at t (effect_length t a e) (effect_slot a e)) ≡ effect_draws t a e
  unfolding expression_formed effect_draws
  expression_told h = draws_known t (effect_length t a e) (effect_slot a e) (and_first _ _ h) (and_rest _ _ h)

pub counted : (t : List ℕ) → counts_formed t ≡ true → Counted t
unfolding counts_formed
counted t h =
    record {
      variables = leb-true _ _ (and_first _ _ h);
      clocks = leb-true _ _ (and_first _ _ (and_rest _ _ h));
      locations = leb-true _ _ (and_first _ _ (and_rest _ _ (and_rest _ _ h)));
      actions = leb-true _ _ (and_first _ _ (and_rest _ _ (and_rest _ _ (and_rest _ _ h))));
      processes = leb-true _ _ (and_first _ _ (and_rest _ _ (and_rest _ _ (and_rest _ _ (and_rest _ _ h)))));
      transitions = leb-true _ _ (and_rest _ _ (and_rest _ _ (and_rest _ _ (and_rest _ _ (and_rest _ _ h)))));
    }
