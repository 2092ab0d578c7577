-- Laws of bytes that are put at a place: two rows after each other are one, and a place past the end takes nothing.
use Prim.Native.Nat.{ℕ, suc, ◌+◌, ◌≤◌, ◌<◌}
use mathlib.Core.Path.{◌≡◌, refl, sym, ap, ◌∙◌}
use mathlib.Core.Bool.{Bool, true, false}
use mathlib.Core.List.{List, [], ◌∷◌, ◌++◌}
use native.Mathlib.Nat.{add-zero}
use native.Mathlib.Omega.{arith}
use lib.Dec.{leb}
use lib.ListN.{length, set, length-append}
use lib.Seq.{set_out, sets, length-sets}
use borrow.Author.Tests.{leb-true, leb-false}
use Rattle.text.specs.Writing.{reached, Put}

pub past_end : (bytes l : List ℕ) (i : ℕ) → length l ≤ i → sets l i bytes ≡ l
past_end [] l i h = refl
past_end (b ∷ bytes) l i h = rw (set_out l i b h) (past_end bytes l (suc i) (omega arith))

in_turn : (x y l : List ℕ) (i : ℕ) → sets l i (x ++ y) ≡ sets (sets l i x) (i + length x) y
in_turn [] y l i = ap (λ (k : ℕ). sets l k y) (sym (add-zero i))
in_turn (b ∷ x) y l i =
    let e : suc i + length x ≡ i + suc (length x) = omega arith in
    in_turn x y (set l i b) (suc i) ∙ ap (λ (k : ℕ). sets (sets (set l i b) (suc i) x) k y) e

pub none : (l : List ℕ) (at : ℕ) → Put l at [] l at
none l at = record { stored = refl; moved = omega arith }

-- what is put at the place that was reached is what is put at the sum
same_place : (y l : List ℕ) (room at n : ℕ) → length l ≡ room → sets l (reached room at n) y ≡ sets l (at + n) y
same_place y l room at n e = by (leb (at + n) room) refl
  where
    by : (t : Bool) → leb (at + n) room ≡ t → sets l (reached room at n) y ≡ sets l (at + n) y
    by true k =
        let h : at + n ≤ room = leb-true (at + n) room k in
        let s : reached room at n ≡ at + n = omega arith in
        ap (λ (p : ℕ). sets l p y) s
    by false k =
        let h : room < at + n = leb-false (at + n) room k in
        past_end y l (reached room at n) (omega arith) ∙ sym (past_end y l (at + n) (omega arith))

pub both : {a b c x y : List ℕ} {at p q : ℕ} → Put a at x b p → Put b p y c q → Put a at (x ++ y) c q
both {a} {b} {c} {x} {y} {at} {p} {q} f g =
    let room : length b ≡ length a = ap length f.stored ∙ length-sets a at x in
    record {
      stored =
          g.stored ∙ ap (λ (k : ℕ). sets b k y) f.moved ∙ same_place y b (length a) at (length x) room
          ∙ ap (λ (l : List ℕ). sets l (at + length x) y) f.stored ∙ sym (in_turn x y a at);
      moved = omega (arith, g.moved, f.moved, length-append x y);
    }
