-- Laws of decimal numbers: a row of digits, digit by digit.
use Prim.Native.Nat.{ℕ, ◌+◌, ◌≤◌, ◌<◌}
use mathlib.Core.Path.{◌≡◌, refl}
use mathlib.Core.Bool.{Bool, true, false, cond, ◌&&◌}
use mathlib.Core.List.{List, [], ◌∷◌}
use native.Mathlib.Nat.{le_trans}
use native.Mathlib.Omega.{arith}
use lib.Dec.{leb, ltb}
use lib.ListN.{length, get_or, drop}
use borrow.Author.Tests.{leb-true, leb-false, le-leb, lt-leb}
use Rattle.laws.proofs.Lists.{next, done}
use Rattle.laws.proofs.Tests.{first, second}
use Rattle.std.specs.Prelude.{Some, None}
use Rattle.text.specs.Numbers.{is_digit, are_digits, append, decimal, number_if, with_digit, up_to, number_of}

-- ---- a number that is given under a test
given : {t : Bool} (n : ℕ) → t ≡ true → number_if t n ≡ Some n
unfolding number_if
given n e = rw e

refused : {t : Bool} (n : ℕ) → t ≡ false → number_if t n ≡ None
unfolding number_if
refused n e = rw e

-- the test held, and the number is the one given
held : (t : Bool) (n m : ℕ) → number_if t n ≡ Some m → (t ≡ true) × (n ≡ m)
unfolding number_if
held true n m e = (refl, cc)
held false n m e = let z : ◌≡◌ {A = ℕ} 0 1 = cc in absurd (omega arith)

failed : (t : Bool) (n : ℕ) → number_if t n ≡ None → t ≡ false
unfolding number_if
failed true n e = let z : ◌≡◌ {A = ℕ} 0 1 = cc in absurd (omega arith)
failed false n e = refl

-- ---- a row of digits
grows : (token : List ℕ) (n : ℕ) → n ≤ decimal n token
unfolding decimal
grows [] n = omega arith
grows (b ∷ token) n = le_trans (omega arith) (grows token (append n b))

module _ (largest n b : ℕ) (rest : List ℕ) where
  goes : (m : ℕ) → with_digit largest n b ≡ Some m → up_to largest n (b ∷ rest) ≡ up_to largest m rest
  unfolding with_digit up_to are_digits decimal
  goes m e =
      let h = held _ _ m e in
      rw (first (is_digit b) _ h.0, ← h.1)

  stops : with_digit largest n b ≡ None → up_to largest n (b ∷ rest) ≡ None
  unfolding with_digit up_to are_digits decimal
  stops e = by (is_digit b) (leb (append n b) largest) refl (failed _ _ e)
    where
      none : (a : Bool) → (a && false) ≡ false
      none true = refl
      none false = refl

      by : (t u : Bool) → leb (append n b) largest ≡ u → (t && u) ≡ false → number_if ((t && are_digits rest) && leb (decimal (append n b) rest) largest) (decimal (append n b) rest) ≡ None
      by false u k f = refused _ refl
      by true false k f =
          rw (lt-leb (decimal (append n b) rest) largest (le_trans (leb-false (append n b) largest k) (grows rest (append n b)))) (refused _ (none (are_digits rest)))
      by true true k f = let z : ◌≡◌ {A = ℕ} 0 1 = cc in absurd (omega arith)

ends : (largest n : ℕ) → n ≤ largest → up_to largest n [] ≡ Some n
unfolding up_to are_digits decimal
ends largest n h = given n (le-leb n largest h)

-- ---- what is given is at most the largest
pub digit_small : (largest n b : ℕ) {m : ℕ} → with_digit largest n b ≡ Some m → m ≤ largest
unfolding with_digit
digit_small largest n b {m} e =
    let h = held _ _ m e in
    rw (← h.1) (leb-true (append n b) largest (second (is_digit b) _ h.0))

row_small : (largest : ℕ) (token : List ℕ) {m : ℕ} → up_to largest 0 token ≡ Some m → m ≤ largest
unfolding up_to
row_small largest token {m} e =
    let h = held _ _ m e in
    rw (← h.1) (leb-true (decimal 0 token) largest (second (are_digits token) _ h.0))

pub small : (most largest : ℕ) (token : List ℕ) {m : ℕ} → number_of most largest token ≡ Some m → m ≤ largest
unfolding number_of
small most largest token {m} e = by (ltb 0 (length token) && leb (length token) most) e
  where
    by : (t : Bool) → cond t (up_to largest 0 token) None ≡ Some m → m ≤ largest
    by true k = row_small largest token k
    by false k = let z : ◌≡◌ {A = ℕ} 0 1 = cc in absurd (omega arith)

-- ---- the row from a place on
module _ (largest n : ℕ) (s : List ℕ) (i : ℕ) (h : i < length s) where
  pub goes_on : (m : ℕ) → with_digit largest n (get_or s i 0) ≡ Some m → up_to largest n (drop i s) ≡ up_to largest m (drop (i + 1) s)
  goes_on m e = rw (next 0 s i h) (goes largest n (get_or s i 0) (drop (i + 1) s) m e)

  pub stops_there : with_digit largest n (get_or s i 0) ≡ None → up_to largest n (drop i s) ≡ None
  stops_there e = rw (next 0 s i h) (stops largest n (get_or s i 0) (drop (i + 1) s) e)

pub ends_there : (largest n : ℕ) (s : List ℕ) (i : ℕ) → length s ≤ i → n ≤ largest → up_to largest n (drop i s) ≡ Some n
ends_there largest n s i h k = rw (done s i h) (ends largest n k)
