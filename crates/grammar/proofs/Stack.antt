-- The operands that wait, as an array of slots has them, and what one step does to them: over any slot S that holds an operand A.
use mathlib.Core.Path.{◌≡◌, refl, sym, ap, ◌∙◌}
use mathlib.Core.List.{List, [], ◌∷◌}
use Prim.Native.Nat.{ℕ, zero, suc, ◌+◌, ◌-◌, ◌≤◌, ◌<◌}
use native.Mathlib.Numerals.{add-one}
use native.Mathlib.Omega.{arith}
use lib.ListN.{length, get_or, set}
use lib.Seq.{get_or-set_same, get_or-set_other}
use Rattle.grammar.specs.Run.{Step, push, change, join, gives, stuck, run_of, size_of, made}

-- `val` is the operand in a slot, and `past` what a read past the end gives
module _ {S A : Type 0} (val : S → A) (past : S) where
  abbrev pub at : List S → ℕ → A
  at s i = val (get_or s i past)

  -- the first d slots, the last first
  abbrev pub stack_of : List S → ℕ → List A
  stack_of s zero = []
  stack_of s (suc d) = val (get_or s d past) ∷ stack_of s d

  stack_set : (s : List S) (i d : ℕ) (v : S) → d ≤ i → stack_of (set s i v) d ≡ stack_of s d
  stack_set s i zero v h = refl
  stack_set s i (suc d) v h =
      ap (λ (x : S). val x ∷ stack_of (set s i v) d) (get_or-set_other s i d v past (λ e. omega arith))
      ∙ ap (λ (l : List A). at s d ∷ l) (stack_set s i d v (omega arith))

  stack_push : (s : List S) (i : ℕ) (v : S) → i < length s → stack_of (set s i v) (i + 1) ≡ val v ∷ stack_of s i
  stack_push s i v h =
      ap (stack_of (set s i v)) (add-one i)
      ∙ ap (λ (x : S). val x ∷ stack_of (set s i v) i) (get_or-set_same s i v past h)
      ∙ ap (λ (l : List A). val v ∷ l) (stack_set s i i v (omega arith))

  -- a step for which too few wait
  pub short : (i : Step A) (rest : List (Step A)) (s : List S) (d : ℕ) → d < size_of i → run_of (i ∷ rest) (stack_of s d) ≡ stuck
  unfolding run_of
  short (push a) rest s d h = absurd (omega arith)
  short (change f) rest s zero h = refl
  short (change f) rest s (suc d) h = absurd (omega arith)
  short (join f) rest s zero h = refl
  short (join f) rest s (suc zero) h = refl
  short (join f) rest s (suc (suc d)) h = absurd (omega arith)

  -- a step that goes on
  pub goes : (i : Step A) (rest : List (Step A)) (s : List S) (d b : ℕ) → d ≡ b + size_of i
      → run_of (i ∷ rest) (stack_of s d) ≡ run_of rest (made i (at s b) (at s (b + 1)) ∷ stack_of s b)
  unfolding run_of
  goes (push a) rest s d b h =
      let q : d ≡ b = omega arith in
      rw q
  goes (change f) rest s d b h =
      let q : d ≡ suc b = omega arith in
      rw q
  goes (join f) rest s d b h =
      let q : d ≡ suc (suc b) = omega arith in
      rw (q, add-one)

  pub went : (i : Step A) (rest : List (Step A)) (s : List S) (d n : ℕ) → n ≡ size_of i → n ≤ d → d - n < length s → (v : S)
      → val v ≡ made i (at s (d - n)) (at s (d - n + 1))
      → run_of rest (stack_of (set s (d - n) v) (d - n + 1)) ≡ run_of (i ∷ rest) (stack_of s d)
  went i rest s d n e h l v k =
      ap (run_of rest) (stack_push s (d - n) v l ∙ ap (λ (a : A). a ∷ stack_of s (d - n)) k)
      ∙ sym (goes i rest s d (d - n) (omega arith))

  -- no step is left
  pub ends : (s : List S) (d : ℕ) → (d ≡ 1 → ⊥) → run_of [] (stack_of s d) ≡ stuck
  unfolding run_of
  ends s zero ne = refl
  ends s (suc zero) ne = absurd (ne refl)
  ends s (suc (suc d)) ne = refl

  pub ended : (s : List S) (d : ℕ) → d ≡ 1 → run_of [] (stack_of s d) ≡ gives (at s 0)
  unfolding run_of
  ended s d e = rw e
