-- What the code's tests say, and what they say of a chain of them.
use mathlib.Core.Path.{◌≡◌, refl, sym, ap, ◌∙◌}
use mathlib.Core.Bool.{Bool, true, false, not, ◌&&◌}
use Prim.Native.Nat.{ℕ, ◌≤◌}
use native.Mathlib.Nat.{lt_of_not-le, not-le_of_lt}
use native.Mathlib.Decide.{ℕ_discrete}
use native.Mathlib.Omega.{arith}
use lib.Dec.{leb, eqb}
use borrow.Author.Tests.{leb-true, leb-false, le-leb, lt-leb, eq-eqb, ne_eqb}

pub never : {P : Type 0} → false ≡ true → P
never e = let z : ◌≡◌ {A = ℕ} 0 1 = cc in absurd (omega arith)

-- a code's `if !f(..) { return ..; }`: r is what f gave, p what its contract says
pub held : {r p : Bool} → r ≡ p → r ≡ true → p ≡ true
held e h = sym e ∙ h

pub failed : {r p : Bool} → r ≡ p → r ≡ false → p ≡ false
failed e h = sym e ∙ h

-- a code's `if f(..) { return ..; }`, where the definition asks that it is not so
pub denied : {r p : Bool} → r ≡ p → r ≡ true → not p ≡ false
denied e h = ap not (sym e ∙ h)

pub granted : {r p : Bool} → r ≡ p → r ≡ false → not p ≡ true
granted e h = ap not (sym e ∙ h)

-- a chain of tests `a && b && ..`, of which each `return` of the code knows the first few
pub both_yes : {a r q : Bool} → a ≡ true → r ≡ q → r ≡ (a && q)
both_yes {q = q} e k = k ∙ ap (λ (b : Bool). b && q) (sym e)

pub both_no : {a : Bool} (q : Bool) → a ≡ false → false ≡ (a && q)
both_no q e = ap (λ (b : Bool). b && q) (sym e)

pub first : (a b : Bool) → (a && b) ≡ true → a ≡ true
first true b h = refl
first false b h = h

pub second : (a b : Bool) → (a && b) ≡ true → b ≡ true
second true b h = h
second false true h = refl
second false false h = h

pub both : {a b : Bool} → a ≡ true → b ≡ true → (a && b) ≡ true
both {b = b} e f = ap (λ (x : Bool). x && b) e ∙ f

-- two tests of an order that hold together (`ltb a b` is `leb (suc a) b`)
pub leb_same : (a b c d : ℕ) → (a ≤ b → c ≤ d) → (c ≤ d → a ≤ b) → leb a b ≡ leb c d
leb_same a b c d f g = by (leb a b) refl
  where
    by : (t : Bool) → leb a b ≡ t → leb a b ≡ leb c d
    by true e = e ∙ sym (le-leb c d (f (leb-true a b e)))
    by false e = e ∙ sym (lt-leb c d (lt_of_not-le (λ h. not-le_of_lt (leb-false a b e) (g h))))

pub eqb_same : (a b c d : ℕ) → (a ≡ b → c ≡ d) → (c ≡ d → a ≡ b) → eqb a b ≡ eqb c d
eqb_same a b c d f g = by (ℕ_discrete a b)
  where
    by : Dec (a ≡ b) → eqb a b ≡ eqb c d
    by (yes e) = eq-eqb a b e ∙ sym (eq-eqb c d (f e))
    by (no h) = ne_eqb a b h ∙ sym (ne_eqb c d (λ e. h (g e)))
