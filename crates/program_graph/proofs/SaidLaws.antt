-- What a send says: each value is that of its expression, on the variables as they are.
use Prim.Native.Nat.{ℕ, zero, suc, ◌<◌, ◌≤◌}
use mathlib.Core.Path.{◌≡◌, refl, sym, ap, ◌∙◌}
use mathlib.Core.Bool.{true}
use mathlib.Core.List.{List}
use mathlib.Core.Logic.{⊎_elim}
use native.Mathlib.Nat.{le_of_suc-le-suc, not-suc-le-zero, eq-or-lt_of_le}
use native.Mathlib.Omega.{arith}
use lib.ListN.{length, get_or, set, length-set}
use lib.Seq.{get_or-set_same, get_or-set_other}
use Rattle.laws.proofs.Tests.{never}
use Rattle.grammar.specs.Evaluation.{blank, evaluation_of}
use Rattle.grammar.specs.declared.values.Val.{Val}
use Rattle.grammar.specs.declared.values.Slot.{Slot}
use Rattle.grammar.specs.declared.evaluation.Evaluation.{Evaluation}
use Rattle.std.specs.Prelude.{Option, Some, None}
use Rattle.graph_tables.specs.Words.{effect_items}
use Rattle.run_steps.specs.Messages.{voiced, spoken_below}
use Rattle.run_steps.specs.declared.inner.messages.Speech.{Speech}
use Rattle.run_steps.proofs.MessageLaws.{next_runs, spoken_fit}

-- where an expression is evaluated and all fit, there was a value, and it is stored
stored : (s : Speech) (n : ℕ) (e : Option Val) (rest : ℕ) → (voiced s n e rest).fits ≡ true
    → (x : Val) × (e ≡ Some x) × ((voiced s n e rest).values ≡ set s.values n (record { value = x }))
stored s n (Some x) rest h = (x, refl, refl)
stored s n None rest h = never h

module _ (t : List ℕ) (a : ℕ) (vars : List Slot) (s : Speech) where
  -- what expression e gives: its word is what the draws before it left
  abbrev pub turn : ℕ → Evaluation
  turn e = evaluation_of vars (spoken_below t a vars s e).word (effect_items t a e)

  -- one more expression, where all fit
  once : (n : ℕ) → (spoken_below t a vars s (suc n)).fits ≡ true
      → (x : Val) × ((turn n).value ≡ Some x)
      × ((spoken_below t a vars s (suc n)).values ≡ set (spoken_below t a vars s n).values n (record { value = x }))
  unfolding spoken_below
  once n h =
      let before : Speech = spoken_below t a vars s n in
      let runs = next_runs vars before n (effect_items t a n) (spoken_fit t a vars s (suc n) n (omega arith) h) in
      let q = stored before n (turn n).value (turn n).rest (sym (ap (λ (r : Speech). r.fits) runs) ∙ h) in
      (q.0, q.1, ap (λ (r : Speech). r.values) runs ∙ q.2)

  -- Where all fit, value e is that of expression e.
  pub said : (n : ℕ) → (spoken_below t a vars s n).fits ≡ true → n ≤ length s.values
      → (length (spoken_below t a vars s n).values ≡ length s.values)
      × ((e : ℕ) → e < n → (turn e).value ≡ Some (get_or (spoken_below t a vars s n).values e blank).value)
  unfolding spoken_below
  said zero h m = (refl, λ e l. absurd (not-suc-le-zero l))
  said (suc n) h m =
      let before : List Slot = (spoken_below t a vars s n).values in
      let q = once n h in
      let k = said n (spoken_fit t a vars s (suc n) n (omega arith) h) (omega arith) in
      let x : Slot = record { value = q.0 } in
      let at : (e : ℕ) → get_or (spoken_below t a vars s (suc n)).values e blank ≡ get_or (set before n x) e blank
      = λ e. ap (λ (l : List Slot). get_or l e blank) q.2 in (
        ap length q.2 ∙ length-set before n x ∙ k.0,
        λ e l. ⊎_elim
            (λ (p : e ≡ n).
            rw p (q.1 ∙ ap (λ (y : Slot). Some y.value) (sym (at n ∙ get_or-set_same before n x blank (omega (arith, k.0))))))
            (λ (p : e < n).
            k.1 e p ∙ ap (λ (y : Slot). Some y.value) (sym (at e ∙ get_or-set_other before n e x blank (λ z. omega arith))))
            (eq-or-lt_of_le (le_of_suc-le-suc l)),
      )
