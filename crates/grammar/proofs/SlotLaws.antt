-- Laws of values in words.
use Prim.Native.Nat.{ℕ, zero, suc, ◌+◌, ◌-◌, ◌*◌, ◌%◌, ◌<◌}
use mathlib.Core.Path.{◌≡◌, refl, ap, ◌∙◌}
use mathlib.Core.Bool.{true, false}
use mathlib.Core.List.{List, [], ◌∷◌}
use native.Mathlib.Omega.{arith}
use lib.ListN.{length, get_or, set}
use Rattle.grammar.specs.Bits.{bits_of}
use Rattle.grammar.specs.Evaluation.{blank}
use Rattle.grammar.specs.Slots.{val_of, kind_in, payload_in, slots_of, words_in, FitVal}
use Rattle.grammar.specs.declared.values.Val.{Val}
use Rattle.grammar.specs.declared.values.Val.TheVariants.{Boolean, Integer}
use Rattle.grammar.specs.declared.values.Slot.{Slot}
use Rattle.grammar.proofs.BitLaws.{from_bits_of, bits_small}

-- variable n is the value of its two words
at : (ws : List ℕ) (n i j : ℕ) → i ≡ 2 * n → j ≡ 2 * n + 1 → j < length ws
    → (get_or (slots_of ws) n blank).value ≡ val_of (get_or ws i 0) (get_or ws j 0)
unfolding slots_of
at [] n i j e f h = absurd (omega arith)
at (k ∷ []) n i j e f h = absurd (omega arith)
at (k ∷ p ∷ ws) zero i j e f h =
    let a : i ≡ 0 = omega arith in
    let b : j ≡ 1 = omega arith in
    rw (a, b)
at (k ∷ p ∷ ws) (suc n) i j e f h =
    let a : i ≡ suc (suc (i - 2)) = omega arith in
    let b : j ≡ suc (suc (j - 2)) = omega arith in
    rw (a, b) (at ws n (i - 2) (j - 2) (omega arith) (omega arith) (omega arith))

pub slots_at : (ws : List ℕ) (n : ℕ) → 2 * n + 1 < length ws
    → (get_or (slots_of ws) n blank).value ≡ val_of (get_or ws (2 * n) 0) (get_or ws (2 * n + 1) 0)
slots_at ws n h = at ws n (2 * n) (2 * n + 1) refl refl h

pub slot_at : (ws : List ℕ) (n : ℕ) → 2 * n + 1 < length ws
    → get_or (slots_of ws) n blank ≡ record { value = val_of (get_or ws (2 * n) 0) (get_or ws (2 * n + 1) 0) }
slot_at ws n h = ap (λ (v : Val). record { value = v }) (slots_at ws n h)

-- half as many
pub slots_length : (ws : List ℕ) (n : ℕ) → length ws ≡ 2 * n → length (slots_of ws) ≡ n
unfolding slots_of
slots_length [] n h = omega arith
slots_length (k ∷ []) n h = absurd (omega arith)
slots_length (k ∷ p ∷ ws) zero h = absurd (omega arith)
slots_length (k ∷ p ∷ ws) (suc n) h = ap suc (slots_length ws n (omega arith))

pub words_length : (ss : List Slot) → length (words_in ss) ≡ 2 * length ss
unfolding words_in
words_length [] = refl
words_length (s ∷ ss) = omega (arith, words_length ss)

-- a kind and a payload stored are the value stored
put : (ws : List ℕ) (n i j k p : ℕ) → i ≡ 2 * n → j ≡ 2 * n + 1 → j < length ws
    → slots_of (set (set ws i k) j p) ≡ set (slots_of ws) n (record { value = val_of k p })
unfolding slots_of
put [] n i j k p e f h = absurd (omega arith)
put (a ∷ []) n i j k p e f h = absurd (omega arith)
put (a ∷ b ∷ ws) zero i j k p e f h =
    let x : i ≡ 0 = omega arith in
    let y : j ≡ 1 = omega arith in
    rw (x, y)
put (a ∷ b ∷ ws) (suc n) i j k p e f h =
    let x : i ≡ suc (suc (i - 2)) = omega arith in
    let y : j ≡ suc (suc (j - 2)) = omega arith in
    rw (x, y) (ap (λ (ss : List Slot). record { value = val_of a b } ∷ ss)
    (put ws n (i - 2) (j - 2) k p (omega arith) (omega arith) (omega arith)))

pub slots_set : (ws : List ℕ) (n k p : ℕ) → 2 * n + 1 < length ws
    → slots_of (set (set ws (2 * n) k) (2 * n + 1) p) ≡ set (slots_of ws) n (record { value = val_of k p })
slots_set ws n k p h = put ws n (2 * n) (2 * n + 1) k p refl refl h

-- a value that a program holds comes back from its words
pub val_back : (v : Val) → FitVal v → val_of (kind_in v) (payload_in v) ≡ v
unfolding val_of FitVal
val_back (Boolean true) f = refl
val_back (Boolean false) f = refl
val_back (Integer z) f = rw (low (bits_of z) (bits_small z f)) (ap Integer (from_bits_of z f))
  where
    low : (n : ℕ) → n < 4294967296 → n % 4294967296 ≡ n
    low n h = omega arith

-- so do all of them
pub slots_back : (ss : List Slot) → ((n : ℕ) → n < length ss → FitVal (get_or ss n blank).value) → slots_of (words_in ss) ≡ ss
unfolding slots_of words_in
slots_back [] f = refl
slots_back (s ∷ ss) f =
    ap (λ (v : Val). record { value = v } ∷ slots_of (words_in ss)) (val_back s.value (f 0 (omega arith)))
    ∙ ap (λ (l : List Slot). s ∷ l) (slots_back ss (λ n h. f (suc n) (omega arith)))

-- a value put among the words is the value among the slots
pub put_slots : (ws : List ℕ) (n : ℕ) (x : Val) → 2 * n + 1 < length ws → FitVal x
    → slots_of (set (set ws (2 * n) (kind_in x)) (2 * n + 1) (payload_in x)) ≡ set (slots_of ws) n (record { value = x })
put_slots ws n x h f =
    slots_set ws n (kind_in x) (payload_in x) h ∙ ap (λ (y : Val). set (slots_of ws) n (record { value = y })) (val_back x f)

-- ---- the words of a list of values
kind : (ss : List Slot) (n i : ℕ) → i ≡ 2 * n → n < length ss → get_or (words_in ss) i 0 ≡ kind_in (get_or ss n blank).value
unfolding words_in
kind [] n i e h = absurd (omega arith)
kind (s ∷ ss) zero i e h = let a : i ≡ 0 = omega arith in rw a
kind (s ∷ ss) (suc n) i e h = let a : i ≡ suc (suc (i - 2)) = omega arith in rw a (kind ss n (i - 2) (omega arith) (omega arith))

payload : (ss : List Slot) (n i : ℕ) → i ≡ 2 * n + 1 → n < length ss → get_or (words_in ss) i 0 ≡ payload_in (get_or ss n blank).value
unfolding words_in
payload [] n i e h = absurd (omega arith)
payload (s ∷ ss) zero i e h = let a : i ≡ 1 = omega arith in rw a
payload (s ∷ ss) (suc n) i e h = let a : i ≡ suc (suc (i - 2)) = omega arith in rw a (payload ss n (i - 2) (omega arith) (omega arith))

pub kind_at_lem : (ss : List Slot) (n : ℕ) → n < length ss → get_or (words_in ss) (2 * n) 0 ≡ kind_in (get_or ss n blank).value
kind_at_lem ss n h = kind ss n (2 * n) refl h

pub payload_at : (ss : List Slot) (n : ℕ) → n < length ss → get_or (words_in ss) (2 * n + 1) 0 ≡ payload_in (get_or ss n blank).value
payload_at ss n h = payload ss n (2 * n + 1) refl h

-- a value among the slots is its two words among the words
set_words : (ss : List Slot) (n i j : ℕ) (x : Val) → i ≡ 2 * n → j ≡ 2 * n + 1 → n < length ss
    → words_in (set ss n (record { value = x })) ≡ set (set (words_in ss) i (kind_in x)) j (payload_in x)
unfolding words_in
set_words [] n i j x e f h = absurd (omega arith)
set_words (s ∷ ss) zero i j x e f h =
    let a : i ≡ 0 = omega arith in
    let b : j ≡ 1 = omega arith in
    rw (a, b)
set_words (s ∷ ss) (suc n) i j x e f h =
    let a : i ≡ suc (suc (i - 2)) = omega arith in
    let b : j ≡ suc (suc (j - 2)) = omega arith in
    rw (a, b) (ap (λ (l : List ℕ). kind_in s.value ∷ payload_in s.value ∷ l)
    (set_words ss n (i - 2) (j - 2) x (omega arith) (omega arith) (omega arith)))

pub words_set : (ss : List Slot) (n : ℕ) (x : Val) → n < length ss
    → words_in (set ss n (record { value = x })) ≡ set (set (words_in ss) (2 * n) (kind_in x)) (2 * n + 1) (payload_in x)
words_set ss n x h = set_words ss n (2 * n) (2 * n + 1) x refl refl h
