-- Parts of a list of bytes, and rows of equal parts: what was joined is read, and what is read was joined.
use Prim.Native.Nat.{ℕ, zero, suc, ◌+◌, ◌-◌, ◌*◌, ◌^◌, ◌≤◌, ◌<◌}
use mathlib.Core.Path.{◌≡◌, refl, sym, ap, ◌∙◌, subst}
use mathlib.Core.Bool.{true}
use mathlib.Core.List.{List, [], ◌∷◌, ◌++◌}
use native.Mathlib.Nat.{not-suc-le-zero, mul-le-mul_left}
use native.Mathlib.Numerals.{add-one}
use native.Mathlib.Omega.{arith}
use borrow.Author.Tests.{eqb-true, eq-eqb}
use lib.ListN.{length, get_or, take, drop, replicate, length-append, length-replicate, length-take, length-drop, get_or-replicate}
use lib.ListN.{replicate-append-replicate}
use lib.Seq.{take_at, drop-drop, take-add, ext_get_or, get_or-take, get_or-drop, take-append-le, drop-append-le, drop-append-add, drop-cons}
use Rattle.laws.proofs.BelowLaws.{all_at, all_from}
use Rattle.recordings.specs.Numbers.{byte, Bytes, number_of, part, number_at, bytes_of, zeros_at, row}
use Rattle.recordings.specs.Writing.{part_of, joined, Every}
use Rattle.recordings.proofs.DigitLaws.{bytes_append, bytes_zeros, digits_written, number_below}

-- ---- parts
module _ (xs : List ℕ) (at n : ℕ) where
  pub length_part : at + n ≤ length xs → length (part xs at n) ≡ n
  length_part l = simp (length-take, length-drop) (omega arith)

  pub part_at : (i : ℕ) → i < n → get_or (part xs at n) i 0 ≡ get_or xs (at + i) 0
  part_at i l = rw (get_or-take, get_or-drop)

  pub part_more : (m : ℕ) → part xs at (n + m) ≡ part xs at n ++ part xs (at + n) m
  part_more m = take-add n m (drop at xs) ∙ rw drop-drop

  pub part_next : at < length xs → part xs at (suc n) ≡ get_or xs at 0 ∷ part xs (at + 1) n
  part_next l = rw (add-one at, drop-cons xs at 0)

  pub part_in : (j m : ℕ) → j + m ≤ n → at + n ≤ length xs → part (part xs at n) j m ≡ part xs (at + j) m
  part_in j m l k =
      let e = length_part k in
      ext_get_or 0 _ _ (simp (length-take, length-drop) (omega arith))
      (λ i h.
      let q : i < m = omega (arith, simp (length-take, length-drop) at h) in
      let s : at + (j + i) ≡ at + j + i = omega arith in
      let p : j + i < n = omega arith in
      rw (get_or-take, get_or-drop, get_or-take, get_or-drop, get_or-take, get_or-drop, s) refl)

  pub part_left : (ys : List ℕ) → at + n ≤ length xs → part (xs ++ ys) at n ≡ part xs at n
  part_left ys l =
      let h : at ≤ length xs = omega arith in
      let k : n ≤ length (drop at xs) = simp length-drop (omega arith) in
      rw (drop-append-le, take-append-le)

pub part_here : (xs ys : List ℕ) (n : ℕ) → length xs ≡ n → part (xs ++ ys) 0 n ≡ xs
part_here xs ys n e = take_at xs ys n e

pub part_skip : (xs ys : List ℕ) (k at n : ℕ) → length xs ≡ k → part (xs ++ ys) (k + at) n ≡ part ys at n
part_skip xs ys k at n e = subst (λ (m : ℕ). part (xs ++ ys) (m + at) n ≡ part ys at n) e (rw drop-append-add)

-- bytes have parts of bytes
pub bytes_drop : (at : ℕ) (xs : List ℕ) → Bytes xs → Bytes (drop at xs)
bytes_drop at xs h i = rw get_or-drop (h (at + i))

pub bytes_take : (n : ℕ) (xs : List ℕ) → Bytes xs → Bytes (take n xs)
bytes_take zero xs h i = bytes_zeros 0 i
bytes_take (suc n) [] h i = h i
bytes_take (suc n) (x ∷ xs) h zero = h 0
bytes_take (suc n) (x ∷ xs) h (suc i) = bytes_take n xs (λ j. h (suc j)) i

pub bytes_part : (xs : List ℕ) (at n : ℕ) → Bytes xs → Bytes (part xs at n)
bytes_part xs at n h = bytes_take n (drop at xs) (bytes_drop at xs h)

-- ---- zeros
pub zeros_part : (xs : List ℕ) (at n j m : ℕ) → zeros_at xs at n ≡ true → j + m ≤ n → at + n ≤ length xs
    → part xs (at + j) m ≡ replicate m 0
unfolding zeros_at
zeros_part xs at n j m z l k =
    ext_get_or 0 _ _ (length_part xs (at + j) m (omega arith) ∙ sym (length-replicate m 0))
    (λ i h.
    let q : i < m = omega (arith, length_part xs (at + j) m (omega arith)) in
    let s : at + j + i ≡ at + (j + i) = omega arith in
    part_at xs (at + j) m i q
    ∙ (ap (λ (p : ℕ). get_or xs p 0) s
    ∙ (eqb-true _ _ (all_at _ n (j + i) z (omega arith)) ∙ sym (get_or-replicate m i 0 0 q))))

pub part_zeros : (xs : List ℕ) (at n : ℕ) → part xs at n ≡ replicate n 0 → zeros_at xs at n ≡ true
unfolding zeros_at
part_zeros xs at n e =
    all_from _ n
    (λ i l. eq-eqb _ _ (sym (part_at xs at n i l) ∙ (ap (λ (p : List ℕ). get_or p i 0) e ∙ get_or-replicate n i 0 0 l)))

-- ---- rows of equal parts
pub joined_same : (f g : ℕ → List ℕ) (i n : ℕ) → ((j : ℕ) → i ≤ j → j < i + n → f j ≡ g j) → joined f i n ≡ joined g i n
unfolding joined
joined_same f g i zero h = refl
joined_same f g i (suc n) h =
    cc (h i (omega arith) (omega arith), joined_same f g (i + 1) n (λ j l k. h j (omega arith) (omega arith)))

pub joined_zeros : (w i n : ℕ) → joined (λ j. replicate w 0) i n ≡ replicate (w * n) 0
unfolding joined
joined_zeros w i zero = let e : w * 0 ≡ 0 = omega arith in rw e refl
joined_zeros w i (suc n) =
    let e : w * suc n ≡ w + w * n = omega arith in
    rw (e, joined_zeros w (i + 1) n) (replicate-append-replicate w (w * n) 0)

pub joined_bytes : (f : ℕ → List ℕ) (i n : ℕ) → ((j : ℕ) → Bytes (f j)) → Bytes (joined f i n)
unfolding joined
joined_bytes f i zero h = bytes_zeros 0
joined_bytes f i (suc n) h = bytes_append (f i) (joined f (i + 1) n) (h i) (joined_bytes f (i + 1) n h)

module _ (f : ℕ → List ℕ) (w : ℕ) (wide : (i : ℕ) → length (f i) ≡ w) where
  pub length_joined : (i n : ℕ) → length (joined f i n) ≡ w * n
  unfolding joined
  length_joined i zero = omega arith
  length_joined i (suc n) =
      let e : w * suc n ≡ w + w * n = omega arith in
      rw (e, length-append, wide i, length_joined (i + 1) n) refl

  joined_part : (i n j : ℕ) → j < n → part (joined f i n) (w * j) w ≡ f (i + j)
  unfolding joined
  joined_part i zero j l = absurd (not-suc-le-zero l)
  joined_part i (suc n) zero l =
      let e : w * 0 ≡ 0 = omega arith in
      let s : i + 0 ≡ i = omega arith in
      rw (e, s) (part_here (f i) (joined f (i + 1) n) w (wide i))
  joined_part i (suc n) (suc j) l =
      let e : w * suc j ≡ w + w * j = omega arith in
      let s : i + 1 + j ≡ i + suc j = omega arith in
      rw e (part_skip (f i) (joined f (i + 1) n) w (w * j) w (wide i) ∙ (joined_part (i + 1) n j (omega arith) ∙ ap f s))

  -- joined parts are read
  pub parts_read : (xs : List ℕ) (at n j : ℕ) → part xs at (w * n) ≡ joined f 0 n → at + w * n ≤ length xs → j < n
      → part xs (at + w * j) w ≡ f j
  parts_read xs at n j e l k =
      let m : w * (j + 1) ≤ w * n = mul-le-mul_left w (omega arith) in
      sym (part_in xs at (w * n) (w * j) w (omega arith) l)
      ∙ (ap (λ (p : List ℕ). part p (w * j) w) e ∙ (joined_part 0 n j k ∙ ap f (omega arith)))

-- what is read was joined
pub parts_joined : (xs : List ℕ) (at w i n : ℕ) → part xs (at + w * i) (w * n) ≡ joined (λ j. part xs (at + w * j) w) i n
unfolding joined
parts_joined xs at w i zero = let e : w * 0 ≡ 0 = omega arith in rw e refl
parts_joined xs at w i (suc n) =
    let e : w * suc n ≡ w + w * n = omega arith in
    let s : at + w * i + w ≡ at + w * (i + 1) = omega arith in
    rw e
    (part_more xs (at + w * i) w (w * n)
    ∙ ap (λ (l : List ℕ). part xs (at + w * i) w ++ l)
    (ap (λ (p : ℕ). part xs p (w * n)) s ∙ parts_joined xs at w (i + 1) n))

-- ---- rows of what is read
module _ {A : Type 0} where
  pub length_row : (h : ℕ → A) (i n : ℕ) → length (row h i n) ≡ n
  unfolding row
  length_row h i zero = refl
  length_row h i (suc n) = ap suc (length_row h (i + 1) n)

  pub row_same : (g h : ℕ → A) (i n : ℕ) → ((j : ℕ) → i ≤ j → j < i + n → g j ≡ h j) → row g i n ≡ row h i n
  unfolding row
  row_same g h i zero e = refl
  row_same g h i (suc n) e = cc (e i (omega arith) (omega arith), row_same g h (i + 1) n (λ j l k. e j (omega arith) (omega arith)))

  row_shift : (h : ℕ → A) (i n : ℕ) → row h (i + 1) n ≡ row (λ j. h (j + 1)) i n
  unfolding row
  row_shift h i zero = refl
  row_shift h i (suc n) = ap (λ l. h (i + 1) ∷ l) (row_shift h (i + 1) n)

  pub every_kept : (P Q : A → Type 0) (xs : List A) → ((x : A) → P x → Q x) → Every P xs → Every Q xs
  unfolding Every
  every_kept P Q [] f h = tt
  every_kept P Q (x ∷ xs) f h = (f x h.0, every_kept P Q xs f h.1)

  pub every_all : (P : A → Type 0) (xs : List A) → ((x : A) → P x) → Every P xs
  unfolding Every
  every_all P [] f = tt
  every_all P (x ∷ xs) f = (f x, every_all P xs f)

  pub every_row : (P : A → Type 0) (h : ℕ → A) (i n : ℕ) → ((j : ℕ) → i ≤ j → j < i + n → P (h j)) → Every P (row h i n)
  unfolding Every row
  every_row P h i zero e = tt
  every_row P h i (suc n) e =
      (e i (omega arith) (omega arith), every_row P h (i + 1) n (λ j l k. e j (omega arith) (omega arith)))

module _ {A : Type 0} (f : A → List ℕ) (w : ℕ) where
  pub part_past : (xs : List A) (i : ℕ) → length xs ≤ i → part_of f w xs i ≡ replicate w 0
  unfolding part_of
  part_past [] i l = refl
  part_past (x ∷ xs) zero l = absurd (not-suc-le-zero l)
  part_past (x ∷ xs) (suc i) l = part_past xs i (omega arith)

  -- what holds of each that is written holds of a part of the row
  pub part_every : (P : List ℕ → Type 0) (xs : List A) (i : ℕ) → Every (λ x. P (f x)) xs → i < length xs → P (part_of f w xs i)
  unfolding Every part_of
  part_every P [] i h l = absurd (not-suc-le-zero l)
  part_every P (x ∷ xs) zero h l = h.0
  part_every P (x ∷ xs) (suc i) h l = part_every P xs i h.1 (omega arith)

  pub part_any : (P : List ℕ → Type 0) (xs : List A) (i : ℕ) → Every (λ x. P (f x)) xs → P (replicate w 0) → P (part_of f w xs i)
  unfolding Every part_of
  part_any P [] i h z = z
  part_any P (x ∷ xs) zero h z = h.0
  part_any P (x ∷ xs) (suc i) h z = part_any P xs i h.1 z

  pub length_part_of : ((x : A) → length (f x) ≡ w) → (xs : List A) (i : ℕ) → length (part_of f w xs i) ≡ w
  unfolding part_of
  length_part_of e [] i = length-replicate w 0
  length_part_of e (x ∷ xs) zero = e x
  length_part_of e (x ∷ xs) (suc i) = length_part_of e xs i

  pub part_row : (h : ℕ → A) (i n j : ℕ) → j < n → part_of f w (row h i n) j ≡ f (h (i + j))
  unfolding part_of row
  part_row h i zero j l = absurd (not-suc-le-zero l)
  part_row h i (suc n) zero l = let e : i + 0 ≡ i = omega arith in rw e refl
  part_row h i (suc n) (suc j) l =
      let e : i + 1 + j ≡ i + suc j = omega arith in
      part_row h (i + 1) n j (omega arith) ∙ ap (λ (k : ℕ). f (h k)) e

  -- what reads each back reads the row back
  pub row_read : (g : List ℕ → A) (xs : List A) → Every (λ x. g (f x) ≡ x) xs → row (λ j. g (part_of f w xs j)) 0 (length xs) ≡ xs
  unfolding row Every part_of
  row_read g [] h = refl
  row_read g (x ∷ xs) h =
      let s = row_shift (λ j. g (part_of f w (x ∷ xs) j)) 0 (length xs) in
      let e = row_same (λ j. g (part_of f w (x ∷ xs) (j + 1))) (λ j. g (part_of f w xs j)) 0 (length xs)
      (λ j l k. ap (λ (i : ℕ). g (part_of f w (x ∷ xs) i)) (add-one j)) in
      cc (h.0, s, e, row_read g xs h.1)

-- zeros stand past the last
module _ {A : Type 0} (f : A → List ℕ) (w : ℕ) (wide : (x : A) → length (f x) ≡ w) (ys : List A) where
  pub zeros_past : (xs : List ℕ) (at n : ℕ) → part xs at (w * n) ≡ joined (part_of f w ys) 0 n → at + w * n ≤ length xs → length ys ≤ n
      → zeros_at xs (at + w * length ys) (w * (n - length ys)) ≡ true
  zeros_past xs at n e l k =
      part_zeros xs (at + w * length ys) (w * (n - length ys))
      (parts_joined xs at w (length ys) (n - length ys)
      ∙ (joined_same _ (λ j. replicate w 0) (length ys) (n - length ys)
      (λ j a b.
      parts_read (part_of f w ys) w (length_part_of f w wide ys) xs at n j e l (omega arith) ∙ part_past f w ys j a)
      ∙ joined_zeros w (length ys) (n - length ys)))

-- a number below a bound or not
pub below_or_not : {P : Type 0} (j c : ℕ) → (j < c → P) → (c ≤ j → P) → P
below_or_not j zero f g = g (omega arith)
below_or_not zero (suc c) f g = f (omega arith)
below_or_not (suc j) (suc c) f g = below_or_not j c (λ l. f (omega arith)) (λ l. g (omega arith))

-- the row that is written of what is read
module _ {A : Type 0} (f : A → List ℕ) (w : ℕ) (h : ℕ → A) where
  pub parts_written : (xs : List ℕ) (at n c : ℕ) → ((j : ℕ) → j < c → j < n → f (h j) ≡ part xs (at + w * j) w)
      → ((j : ℕ) → c ≤ j → j < n → part xs (at + w * j) w ≡ replicate w 0)
      → joined (part_of f w (row h 0 c)) 0 n ≡ part xs at (w * n)
  parts_written xs at n c here past =
      let s : at + w * 0 ≡ at = omega arith in
      joined_same _ (λ j. part xs (at + w * j) w) 0 n
      (λ j a b.
      let k : j < n = omega arith in
      let z : 0 + j ≡ j = omega arith in
      below_or_not j c
      (λ l. part_row f w h 0 c j l ∙ (ap (λ (i : ℕ). f (h i)) z ∙ here j l k))
      (λ l. part_past f w (row h 0 c) j (rw (length_row h 0 c) l) ∙ sym (past j l k)))
      ∙ (sym (parts_joined xs at w 0 n) ∙ ap (λ (p : ℕ). part xs p (w * n)) s)

-- digits of a part
module _ (xs : List ℕ) (bytes : Bytes xs) (at n : ℕ) (l : at + n ≤ length xs) where
  part_bytes : Bytes (part xs at n)
  part_bytes i = bytes_part xs at n bytes i

  pub number_written : bytes_of n (number_at xs at n) ≡ part xs at n
  unfolding number_at
  number_written =
      let e = length_part xs at n l in
      ap (λ (k : ℕ). bytes_of k (number_of (part xs at n))) (sym e) ∙ digits_written (part xs at n) part_bytes

  pub number_wide : number_at xs at n < byte ^ n
  unfolding number_at
  number_wide = let e = length_part xs at n l in rw e at (number_below (part xs at n) part_bytes)
