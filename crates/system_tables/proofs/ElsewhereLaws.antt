-- Two lists of words that are the same but for some places: after a store, after a part is put in, and what is read elsewhere.
use Prim.Native.Nat.{ℕ, ◌+◌, ◌-◌, ◌<◌, ◌≤◌}
use mathlib.Core.Path.{◌≡◌, refl, ap, ◌∙◌}
use mathlib.Core.Bool.{Bool, true, false}
use mathlib.Core.List.{List, ◌++◌}
use native.Mathlib.Omega.{arith}
use borrow.Author.Tests.{ltb-true, ltb-false}
use lib.Dec.{ltb}
use lib.ListN.{length, get_or, set, take, drop, length-set, length-append, length-take, length-drop, get_or-append}
use lib.Seq.{get_or-set_other, get_or-append-add, get_or-take, get_or-drop, length-take-le, take_at, drop_at}
use Rattle.graph_tables.proofs.KeptLaws.{items_moved}

-- u is t but for the n words from a on
pub record Elsewhere (t u : List ℕ) (a n : ℕ) : Type 0 where
  pub sizes : length u ≡ length t
  pub same : (i : ℕ) → ((k : ℕ) → k < n → i ≡ a + k → ⊥) → get_or u i 0 ≡ get_or t i 0

-- a store of one word
pub set_elsewhere : (t : List ℕ) (i v a n : ℕ) → a ≤ i → i < a + n → Elsewhere t (set t i v) a n
set_elsewhere t i v a n l h =
    record {
      sizes = simp length-set;
      same = λ j out. get_or-set_other t i j v 0 (λ e. out (i - a) (omega arith) (omega arith));
    }

-- one after the other
pub then_elsewhere : {t u v : List ℕ} {a n : ℕ} → Elsewhere t u a n → Elsewhere u v a n → Elsewhere t v a n
then_elsewhere e f = record { sizes = f.sizes ∙ e.sizes; same = λ j out. f.same j out ∙ e.same j out }

-- a part that is put in the place of n words
module _ (t new : List ℕ) (a n : ℕ) (size : length new ≡ n) (room : a + n ≤ length t) where
  front : length (take a t) ≡ a
  front = length-take-le a t (omega arith)

  pub put_elsewhere : Elsewhere t (take a t ++ (new ++ drop n (drop a t))) a n
  put_elsewhere =
      record {
        sizes = simp (length-append, length-take, length-drop) (omega arith);
        same = λ j out. by_first j out (ltb j a) refl;
      }
    where
      before : (j : ℕ) → j < a → get_or (take a t ++ (new ++ drop n (drop a t))) j 0 ≡ get_or t j 0
      before j l = get_or-append (take a t) (new ++ drop n (drop a t)) 0 j (rw front l) ∙ get_or-take a t j 0 l

      after : (j : ℕ) → a + n ≤ j → get_or (take a t ++ (new ++ drop n (drop a t))) j 0 ≡ get_or t j 0
      after j l =
          let k = j - (a + n) in
          let place : j ≡ length (take a t) + (length new + k) = rw (front, size) (omega arith) in
          let back : a + (n + k) ≡ j = omega arith in
          ap (λ (i : ℕ). get_or (take a t ++ (new ++ drop n (drop a t))) i 0) place
          ∙ get_or-append-add (take a t) (new ++ drop n (drop a t)) (length new + k) 0
          ∙ get_or-append-add new (drop n (drop a t)) k 0
          ∙ get_or-drop n (drop a t) k 0
          ∙ get_or-drop a t (n + k) 0
          ∙ ap (λ (i : ℕ). get_or t i 0) back

      by_second : (j : ℕ) → ((k : ℕ) → k < n → j ≡ a + k → ⊥) → a ≤ j → (b : Bool) → ltb j (a + n) ≡ b
          → get_or (take a t ++ (new ++ drop n (drop a t))) j 0 ≡ get_or t j 0
      by_second j out l true e = let m : j < a + n = ltb-true _ _ e in absurd (out (j - a) (omega arith) (omega arith))
      by_second j out l false e = after j (ltb-false _ _ e)

      by_first : (j : ℕ) → ((k : ℕ) → k < n → j ≡ a + k → ⊥) → (b : Bool) → ltb j a ≡ b
          → get_or (take a t ++ (new ++ drop n (drop a t))) j 0 ≡ get_or t j 0
      by_first j out true e = before j (ltb-true _ _ e)
      by_first j out false e = by_second j out (ltb-false _ _ e) (ltb j (a + n)) refl

  -- and it stands there
  pub put_part : take n (drop a (take a t ++ (new ++ drop n (drop a t)))) ≡ new
  put_part = ap (take n) (drop_at (take a t) (new ++ drop n (drop a t)) a front) ∙ take_at new (drop n (drop a t)) n size

-- a part that the places do not reach
pub part_elsewhere : {t u : List ℕ} {a n : ℕ} → Elsewhere t u a n → (b m : ℕ) → b + m ≤ length t
    → ((j k : ℕ) → j < m → k < n → b + j ≡ a + k → ⊥) → take m (drop b u) ≡ take m (drop b t)
part_elsewhere {t} {u} e b m room out =
    items_moved t u b b m m (omega arith) room (omega (arith, e.sizes)) (λ j l. e.same (b + j) (λ k h q. out j k l h q))
