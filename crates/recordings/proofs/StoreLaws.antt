-- Runs of stores: one after the other, and what they leave.
use Prim.Native.Nat.{ℕ, zero, suc, ◌+◌, ◌-◌, ◌*◌, ◌/◌, ◌%◌, ◌<◌, ◌≤◌}
use mathlib.Core.Path.{◌≡◌, refl, sym, ap, ◌∙◌}
use mathlib.Core.List.{List, [], ◌∷◌, ◌++◌}
use native.Mathlib.Nat.{not-suc-le-zero}
use native.Mathlib.Omega.{arith}
use lib.ListN.{drop_of_length-le, length, get_or, set}
use borrow.Rule.Slice.PartMut.{put_mid}
use lib.Seq.{sets, sets-eq}
use Rattle.std.proofs.lemmas.List.{append-nil, take_all}
use Rattle.std.proofs.lemmas.Slice.{put_mid-paste}
use Rattle.recordings.specs.Numbers.{byte, bytes_of}
use Rattle.recordings.specs.Writing.{part_of, joined, fields_of}
use Rattle.recordings.specs.Putting.{front_fields, last_fields}
use Rattle.recordings.specs.Layout.{amount_bytes, first_post, posts_bytes, word_byte}
use Rattle.recordings.proofs.DigitLaws.{length_bytes}

-- one run after another is one run
pub sets_append : (l : List ℕ) (i : ℕ) (xs ys : List ℕ) → sets l i (xs ++ ys) ≡ sets (sets l i xs) (i + length xs) ys
sets_append l i [] ys = ap (λ (k : ℕ). sets l k ys) (omega arith)
sets_append l i (x ∷ xs) ys =
    sets_append (set l i x) (suc i) xs ys ∙ ap (λ (k : ℕ). sets (sets l i (x ∷ xs)) k ys) (omega arith)

-- a part of a slice that is written whole
pub part_written : (l ys vs : List ℕ) (at n : ℕ) → at + n ≤ length l → ys ≡ vs → length vs ≡ n → put_mid at (at + n - at) l ys ≡ sets l at vs
part_written l ys vs at n h e len =
    let k : n ≡ at + n - at = omega arith in
    put_mid-paste at (at + n - at) l ys vs n e k (sym len)
    ∙ rw (take_all n vs (omega (arith, len)), ← len) (sym (sets-eq vs l at (omega (arith, len))))

pub sets_whole : (l vs : List ℕ) → length vs ≡ length l → sets l 0 vs ≡ vs
sets_whole l vs e =
    sets-eq vs l 0 (omega (arith, e)) ∙ rw (drop_of_length-le l {i = 0 + length vs} (omega (arith, e))) (append-nil vs)

-- what is left to store of a number after one byte more
pub number_store : (l : List ℕ) (at k n x : ℕ) → k < n
    → sets (set l (at + k) (x % byte)) (at + (k + 1)) (bytes_of (n - (k + 1)) (x / byte)) ≡ sets l (at + k) (bytes_of (n - k) x)
unfolding bytes_of
number_store l at k n x h =
    let e : n - k ≡ suc (n - (k + 1)) = omega arith in
    let s : at + (k + 1) ≡ suc (at + k) = omega arith in
    rw (e, s) refl

-- a run after a run, by its place
pub run_after_lem : (l : List ℕ) (i n p : ℕ) (xs ys : List ℕ) → length xs ≡ n → p ≡ i + n → sets l i (xs ++ ys) ≡ sets (sets l i xs) p ys
run_after_lem l i n p xs ys e f = sets_append l i xs ys ∙ ap (λ (k : ℕ). sets (sets l i xs) k ys) (omega arith)

-- a number, then a byte, then a run
pub number_then : (l : List ℕ) (i n w p q x : ℕ) (zs : List ℕ) → p ≡ i + n → q ≡ suc p
    → sets l i (bytes_of n w ++ (x ∷ zs)) ≡ sets (set (sets l i (bytes_of n w)) p x) q zs
number_then l i n w p q x zs e f =
    run_after_lem l i n p (bytes_of n w) (x ∷ zs) (length_bytes n w) e ∙ ap (λ (k : ℕ). sets (set (sets l i (bytes_of n w)) p x) k zs) (sym f)

-- four bytes, then a run
pub four_then : (l : List ℕ) (i a b c d : ℕ) (zs : List ℕ)
    → sets (set (set (set (set l i a) (i + 1) b) (i + 2) c) (i + 3) d) (i + 4) zs ≡ sets l i (a ∷ b ∷ c ∷ d ∷ zs)
four_then l i a b c d zs =
    let e : i + 1 ≡ suc i = omega arith in
    let f : i + 2 ≡ suc (suc i) = omega arith in
    let g : i + 3 ≡ suc (suc (suc i)) = omega arith in
    let h : i + 4 ≡ suc (suc (suc (suc i))) = omega arith in
    rw (e, f, g, h) refl

-- what is left to store of a row of parts after one part more
pub part_store : (f : ℕ → List ℕ) (w : ℕ) → ((i : ℕ) → length (f i) ≡ w) → (l : List ℕ) (at j n : ℕ) → j < n
    → sets (sets l (at + w * j) (f j)) (at + w * (j + 1)) (joined f (j + 1) (n - (j + 1))) ≡ sets l (at + w * j) (joined f j (n - j))
unfolding joined
part_store f w wide l at j n h =
    let e : n - j ≡ suc (n - (j + 1)) = omega arith in
    let s : at + w * (j + 1) ≡ at + w * j + w = omega arith in
    rw e (sym (run_after_lem l (at + w * j) w (at + w * (j + 1)) (f j) (joined f (j + 1) (n - (j + 1))) (wide j) s))

-- a part that there is
pub part_number : (w : ℕ) (xs : List ℕ) (j : ℕ) → j < length xs → part_of (bytes_of w) w xs j ≡ bytes_of w (get_or xs j 0)
unfolding part_of
part_number w [] j l = absurd (not-suc-le-zero l)
part_number w (x ∷ xs) zero l = refl
part_number w (x ∷ xs) (suc j) l = part_number w xs j (omega arith)

-- a record by its three parts
pub fields_then : (l : List ℕ) (at kind graph count amount : ℕ) (posts : List ℕ) (word answer : ℕ) → length posts ≡ posts_bytes
    → sets (sets (sets l at (front_fields kind graph count amount)) (at + first_post) posts) (at + word_byte) (last_fields word answer)
    ≡ sets l at (fields_of kind graph count amount posts word answer)
unfolding fields_of
fields_then l at kind graph count amount posts word answer e =
    let front = front_fields kind graph count amount in
    let rest = last_fields word answer in
    let n : length front ≡ first_post = rw (length_bytes amount_bytes amount) refl in
    sym
    (run_after_lem l at first_post (at + first_post) front (posts ++ rest) n refl
    ∙ run_after_lem (sets l at front) (at + first_post) posts_bytes (at + word_byte) posts rest e (omega arith))
