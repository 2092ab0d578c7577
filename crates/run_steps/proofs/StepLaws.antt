-- Laws of stepping: a store, tests from orders, and what stands where after resets, a wait, moves and effects.
use Prim.Native.Nat.{ℕ, zero, suc, ◌+◌, ◌<◌, ◌≤◌}
use mathlib.Core.Path.{◌≡◌, refl, sym, ap, ◌∙◌}
use mathlib.Core.Bool.{Bool, true, false, cond}
use mathlib.Core.List.{List, [], ◌∷◌}
use mathlib.Core.Logic.{⊎_elim}
use native.Mathlib.Nat.{le_of_suc-le-suc, not-suc-le-zero, eq-or-lt_of_le}
use native.Mathlib.Numerals.{add-one}
use native.Mathlib.Omega.{arith}
use lib.ListN.{length, get_or, set, length-set}
use lib.Seq.{get_or-set_same, get_or-set_other}
use borrow.Author.Tests.{leb-true, lt-ltb, le-ltb, le-leb, lt-leb}
use Rattle.laws.specs.Below.{all_below}
use Rattle.laws.proofs.BelowLaws.{all_at}
use Rattle.laws.proofs.Tests.{never}
use Rattle.grammar.specs.Evaluation.{blank, evaluation_of}
use Rattle.grammar.specs.declared.values.Slot.{Slot}
use Rattle.grammar.specs.declared.evaluation.Evaluation.{Evaluation}
use Rattle.std.specs.Prelude.{Option, Some, None}
use Rattle.grammar.specs.declared.values.Val.{Val}
use Rattle.graph_tables.specs.Sizes.{last_time}
use Rattle.graph_tables.specs.Words.{location_count, reset_at, effect_var, effect_items}
use Rattle.run_steps.specs.Steps.{post_known, clock_fits, reset_below, shifted_below, placed_below, Effected, assigned, effect_next}
use Rattle.run_steps.specs.Steps.{effects_below}

-- ---- a store
-- what holds of an element holds after a store, where it holds of what is stored there
pub set_keeps : {A : Type 0} (P : A → Type 0) (d : A) (xs : List A) (i : ℕ) (x : A) (k : ℕ) → (i ≡ k → P x) → P (get_or xs k d)
    → P (get_or (set xs i x) k d)
set_keeps P d [] i x k f h = h
set_keeps P d (y ∷ ys) zero x zero f h = f refl
set_keeps P d (y ∷ ys) zero x (suc k) f h = h
set_keeps P d (y ∷ ys) (suc i) x zero f h = h
set_keeps P d (y ∷ ys) (suc i) x (suc k) f h = set_keeps P d ys i x k (λ e. f (ap suc e)) h

-- ---- the tests of posts and clocks, from the orders
pub post_known_lem : (t posts : List ℕ) (p : ℕ) → get_or posts p 0 < location_count t → post_known t posts p ≡ true
unfolding post_known
post_known_lem t posts p h = lt-ltb _ _ h

pub post_unknown : (t posts : List ℕ) (p : ℕ) → location_count t ≤ get_or posts p 0 → post_known t posts p ≡ false
unfolding post_known
post_unknown t posts p h = le-ltb _ _ h

pub clock_fits_lem : (clocks : List ℕ) (delta i : ℕ) → get_or clocks i 0 + delta ≤ last_time → clock_fits clocks delta i ≡ true
unfolding clock_fits
clock_fits_lem clocks delta i h = le-leb _ _ h

pub clock_passes : (clocks : List ℕ) (delta i : ℕ) → last_time < get_or clocks i 0 + delta → clock_fits clocks delta i ≡ false
unfolding clock_fits
clock_passes clocks delta i h = lt-leb _ _ h

-- where every clock fits, each plus the delta is at most the last time
pub fits_at : (clocks : List ℕ) (delta n i : ℕ) → all_below n (clock_fits clocks delta) ≡ true → i < n → get_or clocks i 0 + delta ≤ last_time
unfolding clock_fits
fits_at clocks delta n i h l = leb-true _ _ (all_at _ n i h l)

-- ---- resets
module _ (t : List ℕ) (a : ℕ) (clocks : List ℕ) where
  pub reset_length : (n : ℕ) → length (reset_below t a clocks n) ≡ length clocks
  unfolding reset_below
  reset_length zero = refl
  reset_length (suc n) = length-set (reset_below t a clocks n) (reset_at t a n) 0 ∙ reset_length n

  -- a clock that the action resets reads 0
  pub reset_at_lem : (n i : ℕ) → i < n → reset_at t a i < length clocks → get_or (reset_below t a clocks n) (reset_at t a i) 0 ≡ 0
  unfolding reset_below
  reset_at_lem zero i l h = absurd (not-suc-le-zero l)
  reset_at_lem (suc n) i l h =
      ⊎_elim
      (λ (e : i ≡ n). rw (← e) (get_or-set_same (reset_below t a clocks i) (reset_at t a i) 0 0 (rw (reset_length i) h)))
      (λ (m : i < n). set_keeps (λ (x : ℕ). x ≡ 0) 0 (reset_below t a clocks n) (reset_at t a n) 0 (reset_at t a i) (λ e. refl)
      (reset_at_lem n i m h))
      (eq-or-lt_of_le (le_of_suc-le-suc l))

  -- any other clock is as before
  pub reset_other : (n c : ℕ) → ((i : ℕ) → i < n → reset_at t a i ≡ c → ⊥) → get_or (reset_below t a clocks n) c 0 ≡ get_or clocks c 0
  unfolding reset_below
  reset_other zero c h = refl
  reset_other (suc n) c h =
      get_or-set_other (reset_below t a clocks n) (reset_at t a n) c 0 0 (λ e. h n (omega arith) (sym e))
      ∙ reset_other n c (λ i l. h i (omega arith))

-- ---- a wait
module _ (clocks : List ℕ) (delta : ℕ) where
  pub shifted_length : (n : ℕ) → length (shifted_below clocks delta n) ≡ length clocks
  unfolding shifted_below
  shifted_length zero = refl
  shifted_length (suc n) = length-set (shifted_below clocks delta n) n (get_or clocks n 0 + delta) ∙ shifted_length n

  -- each of the first n clocks is moved by the delta
  pub shifted_at : (n i : ℕ) → i < n → n ≤ length clocks → get_or (shifted_below clocks delta n) i 0 ≡ get_or clocks i 0 + delta
  unfolding shifted_below
  shifted_at zero i l h = absurd (not-suc-le-zero l)
  shifted_at (suc n) i l h =
      ⊎_elim
      (λ (e : i ≡ n). rw e (get_or-set_same (shifted_below clocks delta n) n (get_or clocks n 0 + delta) 0 (rw (shifted_length n) h)))
      (λ (m : i < n). get_or-set_other (shifted_below clocks delta n) n i (get_or clocks n 0 + delta) 0 (λ e. omega arith)
      ∙ shifted_at n i m (omega arith))
      (eq-or-lt_of_le (le_of_suc-le-suc l))

-- a clock that is not yet moved
pub unmoved : (clocks : List ℕ) (delta n i : ℕ) → n ≤ i → get_or (shifted_below clocks delta n) i 0 ≡ get_or clocks i 0
unfolding shifted_below
unmoved clocks delta zero i h = refl
unmoved clocks delta (suc n) i h =
    get_or-set_other (shifted_below clocks delta n) n i (get_or clocks n 0 + delta) 0 (λ q. omega arith) ∙ unmoved clocks delta n i (omega arith)

-- ---- moves
module _ (places posts : List ℕ) where
  pub placed_length : (n : ℕ) → length (placed_below places posts n) ≡ length places
  unfolding placed_below
  placed_length zero = refl
  placed_length (suc n) = length-set (placed_below places posts n) n (get_or posts n 0) ∙ placed_length n

  -- each of the first n processes is at its post
  pub placed_at : (n p : ℕ) → p < n → n ≤ length places → get_or (placed_below places posts n) p 0 ≡ get_or posts p 0
  unfolding placed_below
  placed_at zero p l h = absurd (not-suc-le-zero l)
  placed_at (suc n) p l h =
      ⊎_elim
      (λ (e : p ≡ n). rw e (get_or-set_same (placed_below places posts n) n (get_or posts n 0) 0 (rw (placed_length n) h)))
      (λ (m : p < n). get_or-set_other (placed_below places posts n) n p (get_or posts n 0) 0 (λ e. omega arith) ∙ placed_at n p m (omega arith))
      (eq-or-lt_of_le (le_of_suc-le-suc l))

-- ---- effects
-- one effect keeps how many variables there are
assigned_length : (s : Effected) (v : ℕ) (e : Option Val) (rest : ℕ) → length (assigned s v e rest).vars ≡ length s.vars
assigned_length s v (Some x) rest = length-set s.vars v (record { value = x })
assigned_length s v None rest = refl

-- one effect keeps every other variable
assigned_other : (s : Effected) (v : ℕ) (e : Option Val) (rest w : ℕ) → (v ≡ w → ⊥)
    → get_or (assigned s v e rest).vars w blank ≡ get_or s.vars w blank
assigned_other s v (Some x) rest w h = get_or-set_other s.vars v w (record { value = x }) blank (λ e. h (sym e))
assigned_other s v None rest w h = refl

-- an effect without a value keeps the variables
undone : (s : Effected) (v : ℕ) (e : Option Val) (rest : ℕ) → s.fits ≡ true → (assigned s v e rest).fits ≡ false
    → (assigned s v e rest).vars ≡ s.vars
undone s v (Some x) rest f h = never (sym h ∙ f)
undone s v None rest f h = refl

-- one evaluation, of the same items over the same variables and word
pub evaluated_anew : {items others : List ℕ} {vars ours : List Slot} {word left : ℕ} {y : Evaluation}
    → y ≡ evaluation_of vars word items → items ≡ others → vars ≡ ours → word ≡ left → y ≡ evaluation_of ours left others
evaluated_anew e i v w = rw (i, v, w) at e

-- an effect is run, or one before it had no value
pub next_runs : (s : Effected) (v : ℕ) (items : List ℕ) → s.fits ≡ true
    → effect_next s v items ≡ assigned s v (evaluation_of s.vars s.word items).value (evaluation_of s.vars s.word items).rest
unfolding effect_next
next_runs s v items h = rw h

pub next_stops : (s : Effected) (v : ℕ) (items : List ℕ) → s.fits ≡ false → effect_next s v items ≡ s
unfolding effect_next
next_stops s v items h = rw h

-- what one effect and what none keeps is kept
pub next_keeps : (P : Effected → Type 0) (s : Effected) (v : ℕ) (items : List ℕ)
    → P (assigned s v (evaluation_of s.vars s.word items).value (evaluation_of s.vars s.word items).rest) → P s
    → P (effect_next s v items)
unfolding effect_next
next_keeps P s v items h k = by s.fits
  where
    by : (b : Bool)
        → P (cond b (assigned s v (evaluation_of s.vars s.word items).value (evaluation_of s.vars s.word items).rest) s)
    by true = h
    by false = k

-- one effect keeps every other variable, whether it is run or not
next_other : (s : Effected) (v : ℕ) (items : List ℕ) (w : ℕ) → (v ≡ w → ⊥)
    → get_or (effect_next s v items).vars w blank ≡ get_or s.vars w blank
next_other s v items w h =
    let y = evaluation_of s.vars s.word items in
    next_keeps (λ (r : Effected). get_or r.vars w blank ≡ get_or s.vars w blank) s v items
    (assigned_other s v y.value y.rest w h) refl

module _ (t : List ℕ) (a : ℕ) (s : Effected) where
  abbrev turn : ℕ → Evaluation
  turn n = evaluation_of (effects_below t a s n).vars (effects_below t a s n).word (effect_items t a n)

  pub effects_length : (n : ℕ) → length (effects_below t a s n).vars ≡ length s.vars
  unfolding effects_below
  effects_length zero = refl
  effects_length (suc n) =
      let q = effects_below t a s n in
      next_keeps (λ (r : Effected). length r.vars ≡ length s.vars) q (effect_var t a n) (effect_items t a n)
      (assigned_length q (effect_var t a n) (turn n).value (turn n).rest ∙ effects_length n) (effects_length n)

  -- a variable that no effect from one on assigns is as the effects before that left it
  pub effects_since : (i n v : ℕ) → i ≤ n → ((e : ℕ) → i ≤ e → e < n → effect_var t a e ≡ v → ⊥)
      → get_or (effects_below t a s n).vars v blank ≡ get_or (effects_below t a s i).vars v blank
  unfolding effects_below
  effects_since i zero v l h = let e : 0 ≡ i = omega arith in ap (λ (m : ℕ). get_or (effects_below t a s m).vars v blank) e
  effects_since i (suc n) v l h =
      ⊎_elim
      (λ (e : i ≡ suc n). ap (λ (m : ℕ). get_or (effects_below t a s m).vars v blank) (sym e))
      (λ (m : i < suc n).
      next_other (effects_below t a s n) (effect_var t a n) (effect_items t a n) v (h n (omega arith) (omega arith))
      ∙ effects_since i n v (le_of_suc-le-suc m) (λ e k j. h e k (omega arith)))
      (eq-or-lt_of_le l)

  -- a variable that no effect assigns is as before
  pub effects_other : (n v : ℕ) → ((e : ℕ) → e < n → effect_var t a e ≡ v → ⊥)
      → get_or (effects_below t a s n).vars v blank ≡ get_or s.vars v blank
  unfolding effects_below
  effects_other n v h = effects_since 0 n v (omega arith) (λ e k l. h e l)

  -- once an effect has no value, nothing after it is run
  pub effects_stop : (n i : ℕ) → i ≤ n → (effects_below t a s i).fits ≡ false → effects_below t a s n ≡ effects_below t a s i
  unfolding effects_below
  effects_stop zero i l h = let e : 0 ≡ i = omega arith in ap (effects_below t a s) e
  effects_stop (suc n) i l h =
      ⊎_elim
      (λ (e : i ≡ suc n). ap (effects_below t a s) (sym e))
      (λ (m : i < suc n).
      let q = effects_stop n i (le_of_suc-le-suc m) h in
      next_stops (effects_below t a s n) (effect_var t a n) (effect_items t a n) (ap (λ (r : Effected). r.fits) q ∙ h) ∙ q)
      (eq-or-lt_of_le l)

  -- where each has had a value, so has each before
  pub effects_fit : (n i : ℕ) → i ≤ n → (effects_below t a s n).fits ≡ true → (effects_below t a s i).fits ≡ true
  effects_fit n i l h = by (effects_below t a s i).fits refl
    where
      by : (b : Bool) → (effects_below t a s i).fits ≡ b → (effects_below t a s i).fits ≡ true
      by true q = q
      by false q = never (sym q ∙ sym (ap (λ (r : Effected). r.fits) (effects_stop n i l q)) ∙ h)

  -- while each has a value, one more is run: y is what its evaluation gave, z the value or none
  pub effects_turn : (n : ℕ) {z : Option Val} (y : Evaluation) → (effects_below t a s n).fits ≡ true
      → y ≡ turn n → y.value ≡ z
      → effects_below t a s (n + 1) ≡ assigned (effects_below t a s n) (effect_var t a n) z y.rest
  unfolding effects_below
  effects_turn n y f e q =
      ap (effects_below t a s) (add-one n)
      ∙ next_runs (effects_below t a s n) (effect_var t a n) (effect_items t a n) f
      ∙ ap (λ (w : Evaluation). assigned (effects_below t a s n) (effect_var t a n) w.value w.rest) (sym e)
      ∙ ap (λ (w : Option Val). assigned (effects_below t a s n) (effect_var t a n) w y.rest) q

  -- a single effect without a value has written nothing
  pub effects_single : (n : ℕ) → n ≤ 1 → s.fits ≡ true → (effects_below t a s n).fits ≡ false → (effects_below t a s n).vars ≡ s.vars
  unfolding effects_below
  effects_single zero l f h = refl
  effects_single (suc zero) l f h =
      let q = next_runs s (effect_var t a 0) (effect_items t a 0) f in
      let y = evaluation_of s.vars s.word (effect_items t a 0) in
      ap (λ (r : Effected). r.vars) q ∙ undone s (effect_var t a 0) y.value y.rest f (sym (ap (λ (r : Effected). r.fits) q) ∙ h)
  effects_single (suc (suc n)) l f h = absurd (omega arith)
