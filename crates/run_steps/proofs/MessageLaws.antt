-- Laws of what a send says, and of what a receive takes: the variables that are as before, their kinds, and which value stands.
use Prim.Native.Nat.{ℕ, zero, suc, ◌+◌, ◌<◌, ◌≤◌}
use mathlib.Core.Path.{◌≡◌, refl, sym, ap, ◌∙◌}
use mathlib.Core.Bool.{Bool, true, false}
use mathlib.Core.List.{List}
use mathlib.Core.Logic.{⊎_elim}
use native.Mathlib.Nat.{le_of_suc-le-suc, not-suc-le-zero, eq-or-lt_of_le}
use native.Mathlib.Numerals.{add-one}
use native.Mathlib.Omega.{arith}
use lib.Dec.{eqb}
use lib.ListN.{length, get_or, length-set}
use lib.Seq.{get_or-set_same, get_or-set_other}
use Rattle.laws.proofs.BelowLaws.{and_rest, all_at}
use Rattle.laws.proofs.Tests.{never}
use Rattle.grammar.specs.Values.{kind_of, kind_word}
use Rattle.grammar.specs.Evaluation.{blank, evaluation_of}
use Rattle.grammar.specs.declared.values.Slot.{Slot}
use Rattle.grammar.specs.declared.evaluation.Evaluation.{Evaluation}
use Rattle.std.specs.Prelude.{Option}
use Rattle.grammar.specs.declared.values.Val.{Val}
use Rattle.graph_tables.specs.Words.{kind_at, effect_count, effect_var, effect_items}
use Rattle.graph_tables.specs.declared.handed.Message.{Message}
use Rattle.run_steps.specs.Messages.{voiced, spoken_next, spoken_below, value_fits, message_fits, taken_below, taken_of}
use Rattle.run_steps.specs.declared.inner.messages.Speech.{Speech}
use Rattle.run_steps.proofs.StepLaws.{set_keeps}

-- ---- a send
-- an expression is evaluated, or one before it had no value
pub next_runs : (vars : List Slot) (s : Speech) (e : ℕ) (items : List ℕ) → s.fits ≡ true
    → spoken_next vars s e items ≡ voiced s e (evaluation_of vars s.word items).value (evaluation_of vars s.word items).rest
unfolding spoken_next
next_runs vars s e items h = rw h

next_stops : (vars : List Slot) (s : Speech) (e : ℕ) (items : List ℕ) → s.fits ≡ false → spoken_next vars s e items ≡ s
unfolding spoken_next
next_stops vars s e items h = rw h

module _ (t : List ℕ) (a : ℕ) (vars : List Slot) (s : Speech) where
  -- once an expression has no value, nothing after it is evaluated
  pub spoken_stop : (n i : ℕ) → i ≤ n → (spoken_below t a vars s i).fits ≡ false → spoken_below t a vars s n ≡ spoken_below t a vars s i
  unfolding spoken_below
  spoken_stop zero i l h = let e : 0 ≡ i = omega arith in ap (spoken_below t a vars s) e
  spoken_stop (suc n) i l h =
      ⊎_elim
      (λ (e : i ≡ suc n). ap (spoken_below t a vars s) (sym e))
      (λ (m : i < suc n).
      let q = spoken_stop n i (le_of_suc-le-suc m) h in
      next_stops vars (spoken_below t a vars s n) n (effect_items t a n) (ap (λ (r : Speech). r.fits) q ∙ h) ∙ q)
      (eq-or-lt_of_le l)

  -- where each has had a value, so has each before
  pub spoken_fit : (n i : ℕ) → i ≤ n → (spoken_below t a vars s n).fits ≡ true → (spoken_below t a vars s i).fits ≡ true
  spoken_fit n i l h = by (spoken_below t a vars s i).fits refl
    where
      by : (b : Bool) → (spoken_below t a vars s i).fits ≡ b → (spoken_below t a vars s i).fits ≡ true
      by true q = q
      by false q = never (sym q ∙ sym (ap (λ (r : Speech). r.fits) (spoken_stop n i l q)) ∙ h)

  -- while each has a value, one more is evaluated: y is what its evaluation gave, z the value or none
  pub spoken_turn : (n : ℕ) {z : Option Val} (y : Evaluation) → (spoken_below t a vars s n).fits ≡ true
      → y ≡ evaluation_of vars (spoken_below t a vars s n).word (effect_items t a n) → y.value ≡ z
      → spoken_below t a vars s (n + 1) ≡ voiced (spoken_below t a vars s n) n z y.rest
  unfolding spoken_below
  spoken_turn n y f e q =
      ap (spoken_below t a vars s) (add-one n)
      ∙ next_runs vars (spoken_below t a vars s n) n (effect_items t a n) f
      ∙ ap (λ (w : Evaluation). voiced (spoken_below t a vars s n) n w.value w.rest) (sym e)
      ∙ ap (λ (w : Option Val). voiced (spoken_below t a vars s n) n w y.rest) q

-- ---- a receive
module _ (t : List ℕ) (a : ℕ) (m : Message) (vars : List Slot) where
  pub taken_length : (n : ℕ) → length (taken_below t a m vars n) ≡ length vars
  unfolding taken_below
  taken_length zero = refl
  taken_length (suc n) = length-set (taken_below t a m vars n) (effect_var t a n) (get_or m.values n blank) ∙ taken_length n

  -- a variable that takes no value is as before
  pub taken_kept : (n v : ℕ) → ((e : ℕ) → e < n → effect_var t a e ≡ v → ⊥) → get_or (taken_below t a m vars n) v blank ≡ get_or vars v blank
  unfolding taken_below
  taken_kept zero v h = refl
  taken_kept (suc n) v h =
      get_or-set_other (taken_below t a m vars n) (effect_var t a n) v (get_or m.values n blank) blank (λ e. h n (omega arith) (sym e))
      ∙ taken_kept n v (λ e l. h e (omega arith))

  -- where one stands twice, the later value stays
  pub taken_last : (n e v : ℕ) → e < n → effect_var t a e ≡ v → ((k : ℕ) → e < k → k < n → effect_var t a k ≡ v → ⊥) → v < length vars
      → get_or (taken_below t a m vars n) v blank ≡ get_or m.values e blank
  unfolding taken_below
  taken_last zero e v l q none r = absurd (not-suc-le-zero l)
  taken_last (suc n) e v l q none r =
      ⊎_elim
      (λ (p : e ≡ n).
      rw (← p, ← q) (get_or-set_same (taken_below t a m vars e) (effect_var t a e) (get_or m.values e blank) blank (rw (taken_length e, q) r)))
      (λ (p : e < n).
      get_or-set_other (taken_below t a m vars n) (effect_var t a n) v (get_or m.values n blank) blank (λ z. none n p (omega arith) (sym z))
      ∙ taken_last n e v p q (λ k g s. none k g (omega arith)) r)
      (eq-or-lt_of_le (le_of_suc-le-suc l))

  -- a variable of its kind is so once values of their variables' kinds are taken
  pub taken_kinds : (n v : ℕ) → ((e : ℕ) → e < n → value_fits t a m e ≡ true)
      → eqb (kind_word (kind_of (get_or vars v blank).value)) (kind_at t v) ≡ true
      → eqb (kind_word (kind_of (get_or (taken_below t a m vars n) v blank).value)) (kind_at t v) ≡ true
  unfolding taken_below value_fits
  taken_kinds zero v f h = h
  taken_kinds (suc n) v f h =
      set_keeps (λ (s : Slot). eqb (kind_word (kind_of s.value)) (kind_at t v) ≡ true) blank (taken_below t a m vars n) (effect_var t a n)
      (get_or m.values n blank) v
      (λ e. rw e at (f n (omega arith))) (taken_kinds n v (λ e l. f e (omega arith)) h)

  -- and so once a message that fits is
  pub taken_fits : (v : ℕ) → message_fits t a m ≡ true → eqb (kind_word (kind_of (get_or vars v blank).value)) (kind_at t v) ≡ true
      → eqb (kind_word (kind_of (get_or (taken_of t a m vars) v blank).value)) (kind_at t v) ≡ true
  unfolding message_fits
  taken_fits v f h = taken_kinds (effect_count t a) v (λ e l. all_at (value_fits t a m) (effect_count t a) e (and_rest _ _ f) l) h
