-- Numbers in bytes: none, one byte more below them, and how large they get.
use Prim.Native.Nat.{ℕ, zero, suc, ◌+◌, ◌*◌, ◌^◌, ◌≤◌, ◌<◌}
use mathlib.Core.Path.{◌≡◌, refl, sym, ap, ◌∙◌}
use mathlib.Core.List.{List, [], ◌∷◌, ◌++◌}
use native.Mathlib.Nat.{pow-suc, pow-le-pow_right}
use native.Mathlib.Numerals.{add-one}
use native.Mathlib.Omega.{arith}
use lib.ListN.{length, get_or}
use lib.Seq.{drop-cons}
use Rattle.recordings.specs.Numbers.{byte, number_of, number_at, row}

pub number_none : (xs : List ℕ) (at : ℕ) → number_at xs at 0 ≡ 0
unfolding number_at number_of
number_none xs at = refl

pub number_next : (xs : List ℕ) (at n : ℕ) → at < length xs
    → number_at xs at (n + 1) ≡ get_or xs at 0 + byte * number_at xs (at + 1) n
unfolding number_at number_of
number_next xs at n l = rw (add-one n, add-one at, drop-cons xs at 0)

-- a byte below a number of j bytes gives one of a byte more
pub byte_more : (j x b : ℕ) → x < byte ^ j → b < byte → x * byte + b < byte ^ (j + 1)
byte_more j x b h k = rw (add-one j, pow-suc byte j) (omega arith)

-- a number of up to seven bytes has room for one more in 64 bits
pub seven_bytes : (j x : ℕ) → x < byte ^ j → j ≤ 7 → x < 72057594037927936
seven_bytes j x h l =
    let m : byte ^ j ≤ byte ^ 7 = pow-le-pow_right (omega arith) l in
    omega (arith, m)

-- one more of a row, at its end
pub row_more : {A : Type 0} (f : ℕ → A) (i n : ℕ) → row f i (n + 1) ≡ row f i n ++ (f (i + n) ∷ [])
unfolding row
row_more f i zero = let e : i + 0 ≡ i = omega arith in rw e refl
row_more f i (suc n) =
    let e : i + 1 + n ≡ i + suc n = omega arith in
    let h : row f (i + 1) (suc n) ≡ row f (i + 1) n ++ (f (i + suc n) ∷ []) =
    ap (row f (i + 1)) (sym (add-one n)) ∙ (row_more f (i + 1) n ∙ ap (λ (k : ℕ). row f (i + 1) n ++ (f k ∷ [])) e) in
    rw (add-one (suc n)) (ap (λ l. f i ∷ l) h)
