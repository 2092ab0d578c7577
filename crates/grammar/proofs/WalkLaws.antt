-- One turn of the pass that has one number for the operands that wait.
use Prim.Native.Nat.{ℕ, zero, suc, ◌+◌, ◌-◌, ◌*◌, ◌/◌, ◌%◌, ◌≤◌, ◌<◌, max}
use mathlib.Core.Path.{◌≡◌, refl, sym, ap, ◌∙◌, subst}
use mathlib.Core.Bool.{Bool, true, false, cond}
use mathlib.Core.List.{List, [], ◌∷◌}
use native.Mathlib.Decide.{dec_lt}
use native.Mathlib.Omega.{arith}
use borrow.Author.Tests.{le-leb, ne_eqb, eqb-true}
use lib.Dec.{eqb, ltb, lit≤}
use lib.ListN.{length, get_or, take, drop, length-take, length-drop, get_or-eq_default}
use lib.Seq.{get_or-take, get_or-drop}
use Rattle.laws.specs.Below.{◌and◌}
use Rattle.laws.proofs.BelowLaws.{and_first, and_rest}
use Rattle.laws.proofs.Ladder.{passed}
use Rattle.laws.proofs.Tests.{never}
use Rattle.grammar.specs.Values.{kind_word}
use Rattle.grammar.specs.Bits.{from_bits}
use Rattle.grammar.specs.Items.{Read, item, none, constant, item_of, takes_of, deepest}
use Rattle.grammar.specs.Draws.{draws_in, draws_of}
use Rattle.grammar.specs.Run.{Step, push, Ran, gives, stuck, run_of}
use Rattle.grammar.specs.Typing.{Kinded, of, ill, kinded_at, kind_step, kind_steps, judged, type_of}
use Rattle.grammar.specs.Inner.{digits_of, left_of, known_of, known_in}
use Rattle.grammar.specs.declared.values.«Type».{«Type» as Kind}
use Rattle.grammar.specs.declared.values.Val.TheVariants.{Boolean, Integer}
use Rattle.grammar.specs.declared.items.Item.TheVariants as Item
use Rattle.grammar.specs.declared.typing.Typed.{Typed}
use Rattle.grammar.specs.declared.typing.Typed.TheVariants.{IllTyped}
use Rattle.grammar.proofs.ItemLaws.{high, low_any, no_draw, takes_operand}
use Rattle.grammar.proofs.KindLaws.{get_d_any, judged_deep, judged_known}
use Rattle.grammar.proofs.DrawLaws.{draws_next, draws_done, draws_few}
use Rattle.grammar.proofs.StepLaws.{kind_size, kind_next, kind_done, deepest_next, deepest_least, deepest_done}
use Rattle.grammar.proofs.PlaneLaws.{no_variables}
use Rattle.grammar.proofs.DigitLaws.{word_small, stack_of, goes_on, fails, full, not_full}

-- the run from here on is the whole run, and so are the draws and the operands that wait; no more than 16 did
pub record Walk (items kinds : List ℕ) (waiting draws at : ℕ) : Type 0 where
  pub stack : List Kind
  pub most : ℕ
  pub within : at ≤ length items
  pub held : waiting ≡ digits_of stack
  pub some : waiting ≡ 0 → at ≡ 0
  pub none_yet : at ≡ 0 → waiting ≡ 0
  pub few : most ≤ 16
  pub reached : length stack ≤ most
  pub same_draws : draws + 4 * draws_of (drop at items) ≡ 4 * draws_of items
  pub same_run : run_of (kind_steps kinds (drop at items)) (stack_of stack) ≡ run_of (kind_steps kinds items) []
  pub same_depth : max most (deepest (drop at items) (length stack)) ≡ deepest items 0

pub start : (items kinds : List ℕ) → Walk items kinds 0 0 0
unfolding stack_of digits_of
start items kinds =
    record {
      stack = [];
      most = 0;
      within = omega arith;
      held = refl;
      some = λ z. refl;
      none_yet = λ z. refl;
      few = omega arith;
      reached = omega arith;
      same_draws = omega arith;
      same_run = refl;
      same_depth = omega (arith, deepest_least items 0);
    }

-- ---- the answer
abbrev answer : List ℕ → List ℕ → Typed → ℕ
answer items kinds t = known_of t (draws_of items)

known_some : (items kinds : List ℕ) → 1 ≤ length items → length items ≤ 64
    → known_of (judged (run_of (kind_steps kinds items) []) (deepest items 0)) (draws_of items) ≡ known_in kinds items
unfolding known_in type_of
known_some [] kinds h l = absurd (omega arith)
known_some (w ∷ ws) kinds h l = ap (λ (t : Typed). known_of t (draws_of (w ∷ ws))) (passed _ (le-leb _ _ l) refl)

known_none : (items kinds : List ℕ) → length items ≡ 0 → 0 ≡ known_in kinds items
unfolding known_in
known_none [] kinds e = refl
known_none (w ∷ ws) kinds e = absurd (omega arith)

no_draws : (items : List ℕ) → length items ≡ 0 → draws_of items ≡ 0
unfolding draws_of
no_draws [] e = refl
no_draws (w ∷ ws) e = absurd (omega arith)

deep_refused : (r : Ran Kinded) (deep n : ℕ) → 16 < deep → 3 ≡ known_of (judged r deep) n
deep_refused (gives (of k)) deep n h = ap (λ (t : Typed). known_of t n) (judged_deep k deep h)
deep_refused (gives ill) deep n h = refl
deep_refused stuck deep n h = refl

module _ {items kinds : List ℕ} (short : length items ≤ 64) {waiting draws at : ℕ} (p : Walk items kinds waiting draws at) where
  refused_by_lem : 1 ≤ length items → (t : Typed) → t ≡ judged (run_of (kind_steps kinds items) []) (deepest items 0)
      → 3 ≡ known_of t (draws_of items)
      → 3 ≡ known_in kinds items
  refused_by_lem l t e z = z ∙ ap (λ (u : Typed). known_of u (draws_of items)) e ∙ known_some items kinds l short

  module _ (h : at < length items) where
    abbrev w : ℕ
    w = get_or items at 0

    step : run_of (kind_step kinds (item_of (get_or items at 0)) ∷ kind_steps kinds (drop (at + 1) items)) (stack_of p.stack)
        ≡ run_of (kind_steps kinds items) []
    step = ap (λ (is : List (Step Kinded)). run_of is (stack_of p.stack)) (sym (kind_next items at kinds h)) ∙ p.same_run

    -- the word's step leaves r
    pub steps_on : (r more : ℕ) → r ≡ left_of (kind_step kinds (item_of (get_or items at 0))) p.stack → 1 ≤ r
        → more ≡ draws + 4 * draws_in (item_of (get_or items at 0)) → length p.stack - takes_of (item_of (get_or items at 0)) + 1 ≤ 16
        → Walk items kinds r more (at + 1)
    steps_on r more e one d l =
        let a = goes_on (kind_step kinds (item_of w)) p.stack r e one in
        let s : length a.kinds ≡ length p.stack - takes_of (item_of w) + 1 =
        a.sized ∙ ap (λ (n : ℕ). length p.stack - n + 1) (sym (kind_size kinds (item_of w))) in
        let q = deepest_least (drop (at + 1) items) (length p.stack - takes_of (item_of w) + 1) in
        record {
          stack = a.kinds;
          most = max p.most (length a.kinds);
          within = omega arith;
          held = a.held;
          some = λ z. absurd (omega arith);
          none_yet = λ z. absurd (omega arith);
          few = omega (arith, p.few);
          reached = omega arith;
          same_draws = omega (arith, p.same_draws, draws_next items at h);
          same_run = a.goes (kind_steps kinds (drop (at + 1) items)) ∙ step;
          same_depth =
              ap (λ (n : ℕ). max (max p.most n) (deepest (drop (at + 1) items) n)) s
              ∙ omega (arith, p.reached, p.same_depth, deepest_next items at (length p.stack) h, q);
        }

    pub steps_not : 0 ≡ left_of (kind_step kinds (item_of (get_or items at 0))) p.stack → 3 ≡ known_in kinds items
    steps_not e =
        refused_by_lem (omega arith) IllTyped
        (sym (fails (deepest items 0) kinds (drop (at + 1) items) (kind_step kinds (item_of w)) p.stack e)
        ∙ ap (λ (r : Ran Kinded). judged r (deepest items 0)) step)
        refl

    -- a seventeenth operand
    pub too_many : 13 ≤ get_or items at 0 → 1073741824 ≤ waiting → 3 ≡ known_in kinds items
    too_many l f =
        let n : 16 ≤ length p.stack = full p.stack (omega (arith, p.held)) in
        let t : takes_of (item_of w) ≡ 0 = takes_operand w l in
        let q = deepest_least (drop (at + 1) items) (length p.stack - takes_of (item_of w) + 1) in
        let d : 16 < deepest items 0 = omega (arith, p.same_depth, deepest_next items at (length p.stack) h, q) in
        refused_by_lem (omega arith) (judged (run_of (kind_steps kinds items) []) (deepest items 0)) refl
        (deep_refused (run_of (kind_steps kinds items) []) (deepest items 0) (draws_of items) d)

    -- an operand, by the word of its kind
    pub operand : 13 ≤ get_or items at 0 → waiting < 1073741824 → (k next more : ℕ) → k < 2
        → kind_step kinds (item_of (get_or items at 0)) ≡ push (kinded_at k) → next ≡ 4 * waiting + k + 1
        → more ≡ draws + 4 * draws_in (item_of (get_or items at 0)) → Walk items kinds next more (at + 1)
    unfolding left_of
    operand l f k next more s e q d =
        steps_on next more (pushes k s e q) (omega arith) d
        (omega (arith, takes_operand w l, not_full p.stack (omega (arith, p.held))))
      where
        pushes : (k : ℕ) → k < 2 → kind_step kinds (item_of (get_or items at 0)) ≡ push (kinded_at k) → next ≡ 4 * waiting + k + 1
            → next ≡ left_of (kind_step kinds (item_of (get_or items at 0))) p.stack
        pushes zero s e q = rw e (omega (arith, p.held))
        pushes (suc zero) s e q = rw e (omega (arith, p.held))
        pushes (suc (suc k)) s e q = absurd (omega arith)

    pub no_operand : kind_step kinds (item_of (get_or items at 0)) ≡ push ill → 3 ≡ known_in kinds items
    unfolding left_of
    no_operand e = steps_not (rw e)

  -- ---- the end
  all_drawn : length items ≤ at → draws ≡ 4 * draws_of items
  all_drawn l = omega (arith, p.same_draws, draws_done items at l)

  some_item : length items ≤ at → 1 ≤ waiting → 1 ≤ length items
  some_item l h = by (dec_lt 0 (length items))
    where
      by : Dec (0 < length items) → 1 ≤ length items
      by (yes g) = g
      by (no g) = absurd (omega (arith, p.within, p.none_yet (omega (arith, p.within))))

  finished : length items ≤ at → (ks : List Kind) → p.stack ≡ ks → run_of [] (stack_of ks) ≡ run_of (kind_steps kinds items) []
  finished l ks e =
      ap (λ (s : List Kind). run_of [] (stack_of s)) (sym e)
      ∙ ap (λ (is : List (Step Kinded)). run_of is (stack_of p.stack)) (sym (kind_done items at kinds l))
      ∙ p.same_run

  last : length items ≤ at → (ks : List Kind) → p.stack ≡ ks → waiting ≡ digits_of ks → waiting ≤ 2
      → draws + waiting ≡ known_in kinds items
  unfolding digits_of run_of stack_of
  last l [] e q s =
      let z : length items ≡ 0 = omega (arith, p.within, p.some q) in
      omega (arith, all_drawn l, no_draws items z, known_none items kinds z)
  last l (k ∷ []) e q s =
      let d : deepest items 0 ≤ 16 =
      omega (arith, p.few, p.reached, p.same_depth, deepest_done items at (length p.stack) l) in
      let v : draws + waiting ≡ 4 * draws_of items + kind_word k + 1 = omega (arith, all_drawn l) in
      v
      ∙ ap (λ (t : Typed). known_of t (draws_of items)) (judged_known k (deepest items 0) d
      ∙ ap (λ (r : Ran Kinded). judged r (deepest items 0)) (finished l (k ∷ []) e))
      ∙ known_some items kinds (some_item l (omega arith)) short
  last l (k ∷ j ∷ ks) e q s = absurd (omega arith)

  pub ends : length items ≤ at → waiting ≤ 2 → draws + waiting ≡ known_in kinds items
  ends l s = last l p.stack refl p.held s

  left_over : length items ≤ at → (ks : List Kind) → p.stack ≡ ks → waiting ≡ digits_of ks → 2 < waiting → 3 ≡ known_in kinds items
  unfolding digits_of run_of stack_of
  left_over l [] e q s = absurd (omega arith)
  left_over l (k ∷ []) e q s = absurd (omega (arith, word_small k))
  left_over l (k ∷ j ∷ ks) e q s =
      refused_by_lem (some_item l (omega arith)) IllTyped
      (ap (λ (r : Ran Kinded). judged r (deepest items 0)) (finished l (k ∷ j ∷ ks) e)) refl

  pub ends_not : length items ≤ at → 2 < waiting → 3 ≡ known_in kinds items
  ends_not l s = left_over l p.stack refl p.held s

-- ---- the item of a word from 13 on
pub variable_item : (w : ℕ) → w % 256 ≡ 16 → item_of w ≡ item (Item.Variable (w / 256))
variable_item w e = high w (omega arith) ∙ rw e

pub number_item_lem : (w : ℕ) → (eqb (w % 256) 15 and ltb (w / 256) 4294967296) ≡ true
    → item_of w ≡ constant (Integer (from_bits (w / 256)))
number_item_lem w e =
    let o : w % 256 ≡ 15 = eqb-true _ _ (and_first _ _ e) in
    high w (omega arith) ∙ rw (o, and_rest _ _ e)

pub truth_item_lem : (w : ℕ) → (eqb (w % 256) 14 and ltb (w / 256) 2) ≡ true → item_of w ≡ constant (Boolean (eqb (w / 256) 1))
truth_item_lem w e =
    let o : w % 256 ≡ 14 = eqb-true _ _ (and_first _ _ e) in
    high w (omega arith) ∙ rw (o, and_rest _ _ e)

pub draw_item : (w : ℕ) → w ≡ 13 → item_of w ≡ item Item.Draw
unfolding item_of
draw_item w e = rw e

neither : (a b c d : Bool) (x y : Read) → (a and b) ≡ false → (c and d) ≡ false
    → cond a (cond b x none) (cond c (cond d y none) none) ≡ none
unfolding ◌and◌
neither true true c d x y e f = never (sym e)
neither true false c d x y e f = refl
neither false b true true x y e f = never (sym f)
neither false b true false x y e f = refl
neither false b false d x y e f = refl

pub no_item : (w : ℕ) → 14 ≤ w → (w % 256 ≡ 16 → ⊥) → (eqb (w % 256) 15 and ltb (w / 256) 4294967296) ≡ false
    → (eqb (w % 256) 14 and ltb (w / 256) 2) ≡ false → item_of w ≡ none
no_item w h v n t = high w h ∙ rw (ne_eqb (w % 256) 16 v) (neither _ _ _ _ _ _ t n)

-- ---- the kinds of variables, where they stand in words
module _ (words : List ℕ) (from count v : ℕ) where
  pub kind_there : from + count ≤ length words → v < count → get_or (take count (drop from words)) v 2 ≡ get_or words (from + v) 0
  kind_there h l =
      get_or-take count (drop from words) v 2 l ∙ get_or-drop from words v 2 ∙ get_d_any words (from + v) 2 0 (omega arith)

  pub kind_not_there : count ≤ v → get_or (take count (drop from words)) v 2 ≡ 2
  kind_not_there l =
      get_or-eq_default (take count (drop from words)) 2 {n = v} (omega (arith, length-take count (drop from words)))

-- ---- the same, where the items stand in words
pub record Turn (words : List ℕ) (from n : ℕ) (kinds : List ℕ) (waiting draws at : ℕ) : Type 0 where
  pub low : from ≤ at
  pub high : at ≤ from + n
  pub walk : Walk (take n (drop from words)) kinds waiting draws (at - from)

pub first : (words : List ℕ) (from n : ℕ) (kinds : List ℕ) → Turn words from n kinds 0 0 from
first words from n kinds =
    record {
      low = omega arith;
      high = omega arith;
      walk = subst (Walk (take n (drop from words)) kinds 0 0) (omega arith) (start (take n (drop from words)) kinds);
    }

takes_some : (w : ℕ) → w < 13 → (w ≡ 0 → ⊥) → 1 ≤ takes_of (item_of w)
takes_some =
    low_any 13 (lit≤ tt) (λ (w : ℕ) (r : Read). (w ≡ 0 → ⊥) → 1 ≤ takes_of r)
    ((λ n. absurd (n refl)), (one, (two, (two, (one, (two, (two, (two, (two, (two, (two, (two, (two, tt)))))))))))))
  where
    one : {A : Type 0} → A → 1 ≤ 1
    one a = lit≤ tt

    two : {A : Type 0} → A → 1 ≤ 2
    two a = lit≤ tt

none_at : (w : ℕ) (ks : List Kind) → w ≡ 0 → left_of (kind_step [] (item_of w)) ks ≡ 0
unfolding item_of left_of
none_at w ks e = rw e

module _ (words : List ℕ) (from n : ℕ) (kinds : List ℕ) (room : from + n ≤ length words) (short : n ≤ 64) where
  sized : length (take n (drop from words)) ≡ n
  sized = simp (length-take, length-drop) (omega arith)

  module _ {waiting draws at : ℕ} (t : Turn words from n kinds waiting draws at) where
    pub answered : from + n ≤ at → waiting ≤ 2 → draws + waiting ≡ known_in kinds (take n (drop from words))
    answered h s = ends (omega (arith, sized)) t.walk (omega (arith, sized)) s

    pub not_answered : from + n ≤ at → 2 < waiting → 3 ≡ known_in kinds (take n (drop from words))
    not_answered h s = ends_not (omega (arith, sized)) t.walk (omega (arith, sized)) s

    pub drawn : draws ≤ 4 * n
    drawn = omega (arith, t.walk.same_draws, draws_few (take n (drop from words)), sized)

    module _ (h : at < from + n) where
      inside : at - from < length (take n (drop from words))
      inside = omega (arith, sized, t.low)

      here : get_or words at 0 ≡ get_or (take n (drop from words)) (at - from) 0
      here =
          ap (λ (i : ℕ). get_or words i 0) (omega (arith, t.low))
          ∙ sym (get_or-drop from words (at - from) 0) ∙ sym (get_or-take n (drop from words) (at - from) 0 (omega (arith, t.low)))

      next : {r more : ℕ} → Walk (take n (drop from words)) kinds r more (at - from + 1) → Turn words from n kinds r more (at + 1)
      next {r} {more} k =
          record {
            low = omega (arith, t.low);
            high = omega arith;
            walk = subst (Walk (take n (drop from words)) kinds r more) (omega (arith, t.low)) k;
          }

      -- an operation, whose answer says what it leaves
      module _ (l : get_or words at 0 < 13) (r : ℕ)
          (left : (ks : List Kind) → waiting ≡ digits_of ks → r ≡ left_of (kind_step [] (item_of (get_or words at 0))) ks) where
        leaves : r ≡ left_of (kind_step kinds (item_of (get_or (take n (drop from words)) (at - from) 0))) t.walk.stack
        leaves =
            left t.walk.stack t.walk.held
            ∙ ap (λ (i : Step Kinded). left_of i t.walk.stack) (no_variables kinds (get_or words at 0) l)
            ∙ ap (λ (w : ℕ). left_of (kind_step kinds (item_of w)) t.walk.stack) here

        pub operation : (r ≡ 0 → ⊥) → Turn words from n kinds r draws (at + 1)
        operation z =
            let k : 1 ≤ takes_of (item_of (get_or words at 0)) =
            takes_some (get_or words at 0) l
            (λ e. z (left t.walk.stack t.walk.held ∙ none_at (get_or words at 0) t.walk.stack e)) in
            let k' : 1 ≤ takes_of (item_of (get_or (take n (drop from words)) (at - from) 0)) =
            subst (λ (w : ℕ). 1 ≤ takes_of (item_of w)) here k in
            let d : draws_in (item_of (get_or (take n (drop from words)) (at - from) 0)) ≡ 0 =
            ap (λ (w : ℕ). draws_in (item_of w)) (sym here) ∙ no_draw (get_or words at 0) (λ e. omega arith) in
            next (steps_on (omega (arith, sized)) t.walk inside r draws leaves (omega arith) (omega arith)
            (omega (arith, t.walk.few, t.walk.reached)))

        pub no_operation : r ≡ 0 → 3 ≡ known_in kinds (take n (drop from words))
        no_operation z = steps_not (omega (arith, sized)) t.walk inside (sym z ∙ leaves)

      -- an operand
      module _ (l : 13 ≤ get_or words at 0) where
        low_here : 13 ≤ get_or (take n (drop from words)) (at - from) 0
        low_here = omega (arith, here)

        pub too_many_wait : 1073741824 ≤ waiting → 3 ≡ known_in kinds (take n (drop from words))
        too_many_wait f = too_many (omega (arith, sized)) t.walk inside low_here f

        pub one_more : waiting < 1073741824 → (i : Read) (k left more : ℕ) → item_of (get_or words at 0) ≡ i → k < 2
            → kind_step kinds i ≡ push (kinded_at k)
            → left ≡ 4 * waiting + k + 1 → more ≡ draws + 4 * draws_in i → Turn words from n kinds left more (at + 1)
        one_more f i k left more e s q a d =
            let j : item_of (get_or (take n (drop from words)) (at - from) 0) ≡ i = ap item_of (sym here) ∙ e in
            next (operand (omega (arith, sized)) t.walk inside low_here f k left more s (ap (kind_step kinds) j ∙ q) a
            (d ∙ ap (λ (x : Read). draws + 4 * draws_in x) (sym j)))

        pub no_more : (i : Read) → item_of (get_or words at 0) ≡ i → kind_step kinds i ≡ push ill → 3 ≡ known_in kinds (take n (drop from words))
        no_more i e q =
            no_operand (omega (arith, sized)) t.walk inside
            (ap (λ (w : ℕ). kind_step kinds (item_of w)) (sym here) ∙ ap (kind_step kinds) e ∙ q)
