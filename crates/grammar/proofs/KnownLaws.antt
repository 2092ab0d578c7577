-- What the number of an expression says of its kind and its draws.
use Prim.Native.Nat.{ℕ, zero, suc, ◌+◌, ◌*◌, ◌%◌, ◌≤◌, ◌<◌}
use mathlib.Core.Path.{◌≡◌, refl, sym, ◌∙◌}
use mathlib.Core.Bool.{true}
use mathlib.Core.List.{List, [], ◌∷◌}
use native.Mathlib.Omega.{arith}
use borrow.Author.Tests.{eq-eqb, ne_eqb, le-ltb}
use lib.Dec.{eqb}
use lib.ListN.{length}
use Rattle.laws.specs.Below.{◌and◌}
use Rattle.laws.specs.Ladder.{unless}
use Rattle.laws.proofs.Tests.{never}
use Rattle.grammar.specs.Draws.{draws_of}
use Rattle.grammar.specs.Run.{run_of}
use Rattle.grammar.specs.Typing.{type_of, typed_as, is_typed, kind_steps}
use Rattle.grammar.specs.Inner.{known_of, known_in, is_of, is_known, draws_told, guards_of}
use Rattle.grammar.specs.declared.values.«Type».TheVariants.{Boolean, Integer}
use Rattle.grammar.specs.declared.typing.Typed.{Typed}
use Rattle.grammar.specs.declared.typing.Typed.TheVariants.{Known, IllTyped, TableFull, TooDeep}

-- ---- of an answer
of_number : (t : Typed) (n k : ℕ) → k < 2 → is_of (known_of t n) k ≡ typed_as k t
of_number (Known Boolean) n zero h = eq-eqb ((4 * n + 0 + 1) % 4) 1 (omega arith)
of_number (Known Boolean) n (suc zero) h = ne_eqb ((4 * n + 0 + 1) % 4) 2 (λ e. omega arith)
of_number (Known Boolean) n (suc (suc k)) h = absurd (omega arith)
of_number (Known Integer) n zero h = ne_eqb ((4 * n + 1 + 1) % 4) 1 (λ e. omega arith)
of_number (Known Integer) n (suc zero) h = eq-eqb ((4 * n + 1 + 1) % 4) 2 (omega arith)
of_number (Known Integer) n (suc (suc k)) h = absurd (omega arith)
of_number IllTyped n k h = ne_eqb 3 (k + 1) (λ e. omega arith)
of_number TableFull n k h = ne_eqb 3 (k + 1) (λ e. omega arith)
of_number (TooDeep j) n k h = ne_eqb 3 (k + 1) (λ e. omega arith)

some_number : (x : ℕ) → 1 ≤ x → (x % 4 ≡ 3 → ⊥) → is_known x ≡ true
some_number x h n = rw (ne_eqb x 0 (λ e. omega arith), ne_eqb (x % 4) 3 n)

any_number : (t : Typed) (n : ℕ) → is_known (known_of t n) ≡ is_typed t
any_number (Known Boolean) n = some_number (4 * n + 0 + 1) (omega arith) (λ e. omega arith)
any_number (Known Integer) n = some_number (4 * n + 1 + 1) (omega arith) (λ e. omega arith)
any_number IllTyped n = refl
any_number TableFull n = refl
any_number (TooDeep k) n = refl

draws_number : (t : Typed) (n : ℕ) → is_typed t ≡ true → draws_told (known_of t n) ≡ n
draws_number (Known Boolean) n h = omega arith
draws_number (Known Integer) n h = omega arith
draws_number IllTyped n h = never h
draws_number TableFull n h = never h
draws_number (TooDeep k) n h = never h

guard_number : (t : Typed) (n : ℕ) → guards_of (known_of t n) ≡ (typed_as 0 t and eqb n 0)
unfolding ◌and◌
guard_number (Known Boolean) zero = refl
guard_number (Known Boolean) (suc n) = le-ltb (4 * suc n + 0 + 1) 2 (omega arith) ∙ sym (ne_eqb (suc n) 0 (λ e. omega arith))
guard_number (Known Integer) n = le-ltb (4 * n + 1 + 1) 2 (omega arith)
guard_number IllTyped n = refl
guard_number TableFull n = refl
guard_number (TooDeep k) n = refl

-- ---- of an expression
module _ (kinds : List ℕ) where
  pub of_kind : (items : List ℕ) (k : ℕ) → k < 2 → is_of (known_in kinds items) k ≡ typed_as k (type_of kinds items)
  unfolding known_in type_of run_of kind_steps unless
  of_kind [] k h = ne_eqb 0 (k + 1) (λ e. omega arith)
  of_kind (w ∷ ws) k h = of_number (type_of kinds (w ∷ ws)) (draws_of (w ∷ ws)) k h

  pub of_any_kind : (items : List ℕ) → is_known (known_in kinds items) ≡ is_typed (type_of kinds items)
  unfolding known_in type_of run_of kind_steps unless
  of_any_kind [] = refl
  of_any_kind (w ∷ ws) = any_number (type_of kinds (w ∷ ws)) (draws_of (w ∷ ws))

  pub with_draws : (items : List ℕ) → is_typed (type_of kinds items) ≡ true → draws_told (known_in kinds items) ≡ draws_of items
  unfolding known_in draws_of
  with_draws [] h = refl
  with_draws (w ∷ ws) h = draws_number (type_of kinds (w ∷ ws)) (draws_of (w ∷ ws)) h

  pub no_guard : (items : List ℕ) → length items ≡ 0 → guards_of (known_in kinds items) ≡ true
  unfolding known_in
  no_guard [] e = refl
  no_guard (w ∷ ws) e = absurd (omega arith)

  pub some_guard : (items : List ℕ) → 1 ≤ length items
      → guards_of (known_in kinds items) ≡ (typed_as 0 (type_of kinds items) and eqb (draws_of items) 0)
  unfolding known_in
  some_guard [] h = absurd (omega arith)
  some_guard (w ∷ ws) h = guard_number (type_of kinds (w ∷ ws)) (draws_of (w ∷ ws))

pub as_typed : (t : Typed) (k : ℕ) → typed_as k t ≡ true → is_typed t ≡ true
as_typed (Known j) k h = refl
as_typed IllTyped k h = h
as_typed TableFull k h = h
as_typed (TooDeep j) k h = h
