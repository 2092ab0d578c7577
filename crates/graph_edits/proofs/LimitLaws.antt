-- Laws of limits that are put in a group one by one: each in the order of its clock, and all other words as they were.
use Prim.Native.Nat.{ℕ, zero, suc, ◌+◌, ◌*◌, ◌-◌, ◌/◌, ◌%◌, ◌<◌, ◌≤◌}
use mathlib.Core.Path.{◌≡◌, refl, sym, ap, ◌∙◌}
use mathlib.Core.Bool.{true}
use mathlib.Core.List.{List}
use native.Mathlib.Numerals.{add-one}
use native.Mathlib.Omega.{arith}
use native.Mathlib.Decide.{dec_lt}
use borrow.Author.Tests.{lt-ltb, le-leb, ne_eqb}
use lib.ListN.{length, get_or, set, length-set}
use lib.Seq.{get_or-set_same, get_or-set_other}
use Rattle.laws.specs.Below.{all_below}
use Rattle.laws.proofs.BelowLaws.{and_both, all_from}
use Rattle.time.specs.Time.{range_of, in_range}
use Rattle.time.specs.declared.Bound.{Bound}
use Rattle.time.specs.declared.Bound.TheVariants.{Included, Excluded, Unbounded}
use Rattle.time.specs.declared.TimeRange.{TimeRange}
use Rattle.graph_tables.specs.Layout.{clocks_cell, group_width, group_start, limit_row, lower_cell, upper_cell}
use Rattle.graph_tables.specs.Layout.{bound_span, unbounded_kind, included_kind, excluded_kind}
use Rattle.graph_tables.specs.Sizes.{limit_room, group_room, word32}
use Rattle.graph_tables.specs.declared.handed.Limits.{Limits}
use Rattle.graph_tables.specs.Handed.{handed_clock, handed_range}
use Rattle.graph_tables.specs.Words.{Words, clock_count, clock_of, lower_of, upper_of, bound_of, bound_word}
use Rattle.graph_tables.specs.Formed.{bound_formed, clock_before, limit_formed, limits_formed, zero_inside}
use Rattle.graph_edits.specs.Rows.{gap_of}
use Rattle.graph_edits.specs.Edits.{BoundFits, LimitsFit, ClocksKnown, StartInside, limit_place, with_limit, with_limits}
use Rattle.graph_edits.proofs.ReadLaws.{gap_length, gap_before, gap_moved, gap_after}
use Rattle.graph_edits.proofs.PlaceLaws.{place_bound, place_above, place_below}

-- a number stands before, at or behind another
pub sides : {A : Type 0} (i p : ℕ) → (i < p → A) → (i ≡ p → A) → (p < i → A) → A
sides {A} i p before at behind = by (dec_lt i p) (dec_lt p i)
  where
    by : Dec (i < p) → Dec (p < i) → A
    by (yes l) d = before l
    by (no h) (yes l) = behind l
    by (no h) (no k) = at (omega arith)

-- the words from lo up to hi may differ, and no others
abbrev pub Outside : List ℕ → List ℕ → ℕ → ℕ → Type 0
Outside t u lo hi = (j : ℕ) → (lo ≤ j → hi ≤ j) → get_or u j 0 ≡ get_or t j 0

pub outside : (t u : List ℕ) (lo hi : ℕ) → ((j : ℕ) → j < lo → get_or u j 0 ≡ get_or t j 0) → ((j : ℕ) → hi ≤ j → get_or u j 0 ≡ get_or t j 0)
    → Outside t u lo hi
outside t u lo hi before after j h = by (dec_lt j lo)
  where
    by : Dec (j < lo) → get_or u j 0 ≡ get_or t j 0
    by (yes m) = before j m
    by (no m) = after j (h (omega arith))

-- ---- three words at a place, and those from there up to an end moved up
pub record Put (t u : List ℕ) (place end a b c : ℕ) : Type 0 where
  pub size : length u ≡ length t
  pub before : (j : ℕ) → j < place → get_or u j 0 ≡ get_or t j 0
  pub first : get_or u place 0 ≡ a
  pub second : get_or u (place + 1) 0 ≡ b
  pub third : get_or u (place + 2) 0 ≡ c
  pub moved : (j : ℕ) → place ≤ j → j < end → get_or u (j + 3) 0 ≡ get_or t j 0
  pub after : (j : ℕ) → end + 3 ≤ j → get_or u j 0 ≡ get_or t j 0

pub put : (t : List ℕ) (place end a b c : ℕ) → place ≤ end → end + 3 ≤ length t
    → Put t (set (set (set (gap_of t place end 3) place a) (place + 1) b) (place + 2) c) place end a b c
put t p end a b c l room = record {
  size = simp length-set long;
  before = λ j k. other j (omega arith) ∙ gap_before t p end 3 l room j (omega arith);
  first =
      get_or-set_other (set (set gap p a) (p + 1) b) (p + 2) p c 0 (omega arith)
      ∙ get_or-set_other (set gap p a) (p + 1) p b 0 (omega arith)
      ∙ get_or-set_same gap p a 0 (omega (arith, long));
  second =
      get_or-set_other (set (set gap p a) (p + 1) b) (p + 2) (p + 1) c 0 (omega arith)
      ∙ get_or-set_same (set gap p a) (p + 1) b 0 (simp length-set (omega (arith, long)));
  third = get_or-set_same (set (set gap p a) (p + 1) b) (p + 2) c 0 (simp length-set (omega (arith, long)));
  moved = λ j h k. other (j + 3) (omega arith) ∙ gap_moved t p end 3 l room j h k;
  after = λ j k. other j (omega arith) ∙ gap_after t p end 3 l room j k;
}
  where
    gap : List ℕ
    gap = gap_of t p end 3

    long : length gap ≡ length t
    long = gap_length t p end 3 l room

    other : (j : ℕ) → (j ≡ p → ⊥) × (j ≡ p + 1 → ⊥) × (j ≡ p + 2 → ⊥)
        → get_or (set (set (set gap p a) (p + 1) b) (p + 2) c) j 0 ≡ get_or gap j 0
    other j h =
        get_or-set_other (set (set gap p a) (p + 1) b) (p + 2) j c 0 h.2
        ∙ get_or-set_other (set gap p a) (p + 1) j b 0 h.1
        ∙ get_or-set_other gap p j a 0 h.0

-- ---- n numbers in order, f, and the same with k more at its place p, h
pub ordered : (f h : ℕ → ℕ) (n k p : ℕ) → p ≤ n → (p < n → k < f p) → ((i : ℕ) → i < p → f i ≤ k)
    → ((i : ℕ) → i < p → h i ≡ f i) → h p ≡ k → ((i : ℕ) → p ≤ i → i < n → h (i + 1) ≡ f i)
    → ((i : ℕ) → i + 1 < n → f i ≤ f (i + 1)) → (i : ℕ) → i < n → h i ≤ h (i + 1)
ordered f h n k p bound above below before here behind order i l =
    sides (i + 1) p
    (λ m. rw (before i (omega arith), before (i + 1) m) (order i (omega arith)))
    (λ e. rw (before i (omega arith), e, here) (below i (omega arith)))
    (λ m.
    sides p i
    (λ q.
    let e : i ≡ i - 1 + 1 = omega arith in
    let low : h i ≡ f (i - 1) = ap h e ∙ behind (i - 1) (omega arith) (omega arith) in
    let high : f i ≡ f (i - 1 + 1) = ap f e in
    rw (low, behind i (omega arith) l, high) (order (i - 1) (omega arith)))
    (λ e.
    let more : k < f p = above (omega arith) in
    let low : h i ≡ k = ap h (sym e) ∙ here in
    let high : h (i + 1) ≡ f p = behind i (omega arith) l ∙ ap f (sym e) in
    omega arith)
    (λ q. absurd (omega arith)))

-- ---- a limit more in group g, which has n
limit_put_lem : (t : List ℕ) (g n clock : ℕ) (range : TimeRange) → Words t → g < group_room → n < limit_room
    → Put t (with_limit t g n clock range) (limit_row g (limit_place t g n clock)) (limit_row g n)
    clock (bound_word range.lower) (bound_word range.upper)
unfolding with_limit
limit_put_lem t g n clock range words known room =
    let least : limit_place t g n clock ≤ n = place_bound (clock_of t g) n clock in
    put t _ _ _ _ _ (omega arith) (omega arith)

-- u is t with a limit of these words more, at place p of n
module _ (t u : List ℕ) (g p n a b c : ℕ) (least : p ≤ n) (new : Put t u (limit_row g p) (limit_row g n) a b c) where
  behind : (j k : ℕ) → k ≡ j + 3 → limit_row g p ≤ j → j < limit_row g n → get_or u k 0 ≡ get_or t j 0
  behind j k e l m = rw e (new.moved j l m)

  each_put : (P : ℕ → ℕ → ℕ → Type 0) → ((i : ℕ) → i < n → P (clock_of t g i) (lower_of t g i) (upper_of t g i)) → P a b c
      → (i : ℕ) → i < n + 1 → P (clock_of u g i) (lower_of u g i) (upper_of u g i)
  each_put P old more i l =
      sides i p
      (λ m.
      rw (
        new.before (limit_row g i) (omega arith),
        new.before (lower_cell g i) (omega arith),
        new.before (upper_cell g i) (omega arith),
      )
      (old i (omega arith)))
      (λ e.
      rw (e, new.first, new.second, new.third) more)
      (λ m.
      let k = i - 1 in
      rw (
        behind (limit_row g k) (limit_row g i) (omega arith) (omega arith) (omega arith),
        behind (lower_cell g k) (lower_cell g i) (omega arith) (omega arith) (omega arith),
        behind (upper_cell g k) (upper_cell g i) (omega arith) (omega arith) (omega arith),
      )
      (old k (omega arith)))

-- ---- the first n of these limits
module _ (t : List ℕ) (g : ℕ) (l : Limits) (words : Words t) (known : g < group_room) where
  -- where limit n is put among those before it
  abbrev spot : ℕ → ℕ
  spot n = limit_place (with_limits t g l n) g n (handed_clock l n)

  spot_bound : (n : ℕ) → spot n ≤ n
  spot_bound n = place_bound (clock_of (with_limits t g l n) g) n (handed_clock l n)

  pub limits_length : (n : ℕ) → n ≤ limit_room → length (with_limits t g l n) ≡ length t
  unfolding with_limits
  limits_length zero few = refl
  limits_length (suc n) few =
      let e : length (with_limits t g l n) ≡ length t = limits_length n (omega arith) in
      (limit_put_lem (with_limits t g l n) g n (handed_clock l n) (handed_range l n) (e ∙ words) known few).size ∙ e

  -- the table with one limit more
  pub next : (n : ℕ) → n < limit_room
      → Put (with_limits t g l n) (with_limits t g l (suc n)) (limit_row g (spot n)) (limit_row g n)
      (handed_clock l n) (bound_word (handed_range l n).lower) (bound_word (handed_range l n).upper)
  unfolding with_limits
  next n few = limit_put_lem (with_limits t g l n) g n (handed_clock l n) (handed_range l n) (limits_length n (omega arith) ∙ words) known few

  pub limits_before : (n : ℕ) → n ≤ limit_room → (j : ℕ) → j < group_start g → get_or (with_limits t g l n) j 0 ≡ get_or t j 0
  unfolding with_limits
  limits_before zero few j h = refl
  limits_before (suc n) few j h = (next n few).before j (omega arith) ∙ limits_before n (omega arith) j h

  pub limits_after : (n : ℕ) → n ≤ limit_room → (j : ℕ) → group_start g + group_width ≤ j → get_or (with_limits t g l n) j 0 ≡ get_or t j 0
  unfolding with_limits
  limits_after zero few j h = refl
  limits_after (suc n) few j h = (next n few).after j (omega arith) ∙ limits_after n (omega arith) j h

  -- every limit that stands in the group is a handed one
  pub limits_each : (P : ℕ → ℕ → ℕ → Type 0) (n : ℕ) → n ≤ limit_room
      → ((i : ℕ) → i < n → P (handed_clock l i) (bound_word (handed_range l i).lower) (bound_word (handed_range l i).upper))
      → (i : ℕ) → i < n → P (clock_of (with_limits t g l n) g i) (lower_of (with_limits t g l n) g i) (upper_of (with_limits t g l n) g i)
  limits_each P zero few h i m = absurd (omega arith)
  limits_each P (suc n) few h i m =
      each_put (with_limits t g l n) (with_limits t g l (suc n)) g (spot n) n _ _ _ (spot_bound n) (next n few) P
      (limits_each P n (omega arith) (λ k q. h k (omega arith))) (h n (omega arith)) i (omega arith)

  pub limits_ordered : (n : ℕ) → n ≤ limit_room → (i : ℕ) → i + 1 < n
      → clock_of (with_limits t g l n) g i ≤ clock_of (with_limits t g l n) g (i + 1)
  limits_ordered zero few i m = absurd (omega arith)
  limits_ordered (suc n) few i m =
      ordered (clock_of (with_limits t g l n) g) (clock_of (with_limits t g l (suc n)) g) n (handed_clock l n) (spot n) (spot_bound n)
      (place_above (clock_of (with_limits t g l n) g) n (handed_clock l n)) (place_below (clock_of (with_limits t g l n) g) n (handed_clock l n))
      (λ k q. (next n few).before _ (omega arith))
      (next n few).first
      (λ k q r.
      behind (with_limits t g l n) (with_limits t g l (suc n)) g (spot n) n _ _ _ (spot_bound n) (next n few)
      (limit_row g k) _ (omega arith) (omega arith) (omega arith))
      (limits_ordered n (omega arith)) i (omega arith)

-- ---- a bound, as a word and back
pub bound_formed_lem : (b : Bound) → BoundFits b → bound_formed (bound_word b) ≡ true
unfolding bound_formed
bound_formed_lem (Included n) h =
    let kind : (n * bound_span + included_kind) % bound_span ≡ included_kind = omega arith in
    let time : (n * bound_span + included_kind) / bound_span ≡ n = omega arith in
    rw (ne_eqb (n * bound_span + included_kind) unbounded_kind (omega arith), kind, time) (lt-ltb n word32 h)
bound_formed_lem (Excluded n) h =
    let kind : (n * bound_span + excluded_kind) % bound_span ≡ excluded_kind = omega arith in
    let time : (n * bound_span + excluded_kind) / bound_span ≡ n = omega arith in
    rw (ne_eqb (n * bound_span + excluded_kind) unbounded_kind (omega arith), kind, time) (lt-ltb n word32 h)
bound_formed_lem Unbounded h = refl

pub bound_back : (b : Bound) → bound_of (bound_word b) ≡ b
bound_back (Included n) =
    let kind : (n * bound_span + included_kind) % bound_span ≡ included_kind = omega arith in
    let time : (n * bound_span + included_kind) / bound_span ≡ n = omega arith in
    rw (kind, time)
bound_back (Excluded n) =
    let kind : (n * bound_span + excluded_kind) % bound_span ≡ excluded_kind = omega arith in
    let time : (n * bound_span + excluded_kind) / bound_span ≡ n = omega arith in
    rw (kind, time)
bound_back Unbounded = refl

-- ---- all limits that are handed
pub clocks_same : (t u : List ℕ) (l : Limits) → clock_count u ≡ clock_count t → ClocksKnown t l → ClocksKnown u l
clocks_same t u l e h i m = rw e (h i m)

module _ (t : List ℕ) (g : ℕ) (l : Limits) (words : Words t) (known : g < group_room) (few : l.count ≤ limit_room) where
  -- a limit that stands in the group
  abbrev Sound : ℕ → ℕ → ℕ → Type 0
  Sound clock lower upper = (clock < clock_count t) × (bound_formed lower ≡ true) × (bound_formed upper ≡ true)

  pub limits_formed_lem : ClocksKnown t l → LimitsFit l → limits_formed (with_limits t g l l.count) g l.count ≡ true
  unfolding limits_formed limit_formed
  limits_formed_lem clocks fit = and_both (le-leb _ _ few) (all_from (limit_formed u g) l.count each)
    where
      u : List ℕ
      u = with_limits t g l l.count

      sound : (i : ℕ) → i < l.count → Sound (clock_of u g i) (lower_of u g i) (upper_of u g i)
      sound =
          limits_each t g l words known Sound l.count few
          (λ i m. (
            clocks i m,
            bound_formed_lem (handed_range l i).lower (fit i m).0,
            bound_formed_lem (handed_range l i).upper (fit i m).1,
          ))

      order : (i : ℕ) → i < l.count → clock_before u g i ≤ clock_of u g i
      order zero m = omega arith
      order (suc i) m = rw (sym (add-one i)) (limits_ordered t g l words known l.count few i (omega arith))

      count : clock_count u ≡ clock_count t
      count = limits_before t g l words known l.count few clocks_cell (omega arith)

      each : (i : ℕ) → i < l.count → limit_formed u g i ≡ true
      each i m =
          rw count
          (and_both (lt-ltb _ _ (sound i m).0) (and_both (sound i m).1 (and_both (sound i m).2 (le-leb _ _ (order i m)))))

  pub limits_zero : StartInside l → all_below l.count (zero_inside (with_limits t g l l.count) g) ≡ true
  unfolding zero_inside
  limits_zero inside =
      all_from (zero_inside (with_limits t g l l.count) g) l.count
      (limits_each t g l words known (λ clock lower upper. in_range (range_of (bound_of lower) (bound_of upper)) 0 ≡ true) l.count few
      (λ i m. rw (bound_back (handed_range l i).lower, bound_back (handed_range l i).upper) (inside i m)))
