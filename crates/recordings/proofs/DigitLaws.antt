-- Numbers in bytes: reading and writing are inverse; and which lists are bytes.
use Prim.Native.Nat.{ℕ, zero, suc, ◌+◌, ◌*◌, ◌/◌, ◌%◌, ◌^◌, ◌<◌}
use mathlib.Core.Path.{◌≡◌, refl, ap}
use mathlib.Core.List.{List, [], ◌∷◌, ◌++◌}
use native.Mathlib.Nat.{pow-suc, div-add-mod}
use native.Mathlib.Omega.{arith}
use lib.ListN.{length, replicate}
use Rattle.recordings.specs.Numbers.{byte, Bytes, number_of, bytes_of}

-- ---- numbers
pub length_bytes : (w n : ℕ) → length (bytes_of w n) ≡ w
unfolding bytes_of
length_bytes zero n = refl
length_bytes (suc w) n = ap suc (length_bytes w (n / byte))

-- written digits read back
pub digits_read : (w n : ℕ) → n < byte ^ w → number_of (bytes_of w n) ≡ n
unfolding bytes_of number_of
digits_read zero n l = omega arith
digits_read (suc w) n l =
    let k : n < byte ^ w * byte = rw pow-suc at l in
    let h = digits_read w (n / byte) (omega arith) in
    omega (arith, h, div-add-mod n byte)

-- read digits write back
pub digits_written : (xs : List ℕ) → Bytes xs → bytes_of (length xs) (number_of xs) ≡ xs
unfolding bytes_of number_of
digits_written [] h = refl
digits_written (x ∷ xs) h =
    let l : x < 256 = h 0 in
    let low : (x + byte * number_of xs) % byte ≡ x = omega arith in
    let high : (x + byte * number_of xs) / byte ≡ number_of xs = omega arith in
    let rest = digits_written xs (λ k. h (suc k)) in
    rw (low, high, rest)

-- a number of so many bytes is below so much
pub number_below : (xs : List ℕ) → Bytes xs → number_of xs < byte ^ length xs
unfolding number_of
number_below [] h = omega arith
number_below (x ∷ xs) h =
    let l : x < 256 = h 0 in
    let rest = number_below xs (λ k. h (suc k)) in
    rw pow-suc (omega arith)

-- ---- bytes
pub bytes_append : (xs ys : List ℕ) → Bytes xs → Bytes ys → Bytes (xs ++ ys)
bytes_append [] ys h k i = k i
bytes_append (x ∷ xs) ys h k zero = h 0
bytes_append (x ∷ xs) ys h k (suc i) = bytes_append xs ys (λ j. h (suc j)) k i

pub bytes_cons : (x : ℕ) (xs : List ℕ) → x < byte → Bytes xs → Bytes (x ∷ xs)
bytes_cons x xs l h zero = l
bytes_cons x xs l h (suc i) = h i

pub bytes_number : (w n : ℕ) → Bytes (bytes_of w n)
unfolding bytes_of
bytes_number zero n i = omega arith
bytes_number (suc w) n zero = omega arith
bytes_number (suc w) n (suc i) = bytes_number w (n / byte) i

pub bytes_zeros : (n : ℕ) → Bytes (replicate n 0)
bytes_zeros zero i = omega arith
bytes_zeros (suc n) zero = omega arith
bytes_zeros (suc n) (suc i) = bytes_zeros n i
