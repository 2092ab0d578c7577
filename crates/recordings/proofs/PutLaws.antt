-- Records put one after the other and sealed are the block that is written of them.
use Prim.Native.Nat.{ℕ, zero, suc, ◌+◌, ◌-◌, ◌*◌, ◌≤◌, ◌<◌}
use mathlib.Core.Path.{◌≡◌, refl, sym, ap, ◌∙◌}
use mathlib.Core.Bool.{true}
use mathlib.Core.List.{List, [], ◌∷◌, ◌++◌, append_assoc, append-nil}
use native.Mathlib.Numerals.{add-one}
use native.Mathlib.Omega.{arith}
use borrow.Author.Tests.{le-leb, eq-eqb, lt-ltb}
use lib.ListN.{length, take, drop, replicate, length-append, length-replicate, length-take, take-append-drop}
use lib.Seq.{sets, length-sets, sets-eq, take_at, take-append-add, length-take-le, take_all, take-nil, drop_at}
use Rattle.laws.specs.Ladder.{unless}
use Rattle.recordings.specs.Layout.{block_bytes, place_bytes, head_bytes, head_zero_bytes, record_room, record_bytes, record_start, sum_byte, sum_bytes}
use Rattle.recordings.specs.Numbers.{bytes_of, part}
use Rattle.recordings.specs.Records.{Entry, step, wait}
use Rattle.recordings.specs.Blocks.{sum_of}
use Rattle.recordings.specs.Writing.{part_of, joined, record_of, front_of, block_of, Every, Fits}
use Rattle.recordings.specs.Putting.{few_posts, put_of, with_record, with_head, without_past, sealed, seal_of, put_all}
use Rattle.recordings.proofs.DigitLaws.{length_bytes}
use Rattle.recordings.proofs.PartLaws.{joined_same, joined_zeros, part_past}
use Rattle.recordings.proofs.RecordWriting.{length_record}
use Rattle.recordings.proofs.WritingLaws.{sum_front}

-- ---- a run of stores
-- what stands up to its end
stored : (l : List ℕ) (i n : ℕ) (vs : List ℕ) → length vs ≡ n → i + n ≤ length l → take (i + n) (sets l i vs) ≡ take i l ++ vs
stored l i n vs e h =
    let k : i + length vs ≤ length l = omega arith in
    let m : length (take i l ++ vs) ≡ i + n = simp (length-append, length-take) (omega arith) in
    ap (take (i + n)) (sets-eq vs l i k)
    ∙ take_at (take i l ++ vs) (drop (i + length vs) l) (i + n) m

take_drop : (i n : ℕ) (l : List ℕ) → drop i (take (i + n) l) ≡ take n (drop i l)
take_drop zero n l = let e : 0 + n ≡ n = omega arith in rw e refl
take_drop (suc i) n [] = let e : suc i + n ≡ suc (i + n) = omega arith in rw (e, take-nil) refl
take_drop (suc i) n (x ∷ l) = let e : suc i + n ≡ suc (i + n) = omega arith in rw e (take_drop i n l)

-- ---- records
put_step : (b : List ℕ) (i : ℕ) (e : Entry) → length b ≡ block_bytes → i < record_room → few_posts e ≡ true → (put_of b i e).block ≡ with_record b i e
unfolding put_of unless
put_step b i e n l f = rw (eq-eqb _ _ n, lt-ltb _ _ l, f) refl

few : (e : Entry) → Fits e → few_posts e ≡ true
unfolding Fits
few (step g a ps w x) h = le-leb _ _ h.2
few (wait d x) h = refl

joined_shift : (e : Entry) (es : List Entry) (i n : ℕ)
    → joined (part_of record_of record_bytes (e ∷ es)) (i + 1) n ≡ joined (part_of record_of record_bytes es) i n
unfolding joined part_of
joined_shift e es i zero = refl
joined_shift e es i (suc n) =
    let s : part_of record_of record_bytes (e ∷ es) (i + 1) ≡ part_of record_of record_bytes es i = rw (add-one i) refl in
    cc (s, joined_shift e es (i + 1) n)

first_part : (e : Entry) (es : List Entry) → part_of record_of record_bytes (e ∷ es) 0 ≡ record_of e
unfolding part_of
first_part e es = refl

joined_more : (f : ℕ → List ℕ) (i n m : ℕ) → joined f i (n + m) ≡ joined f i n ++ joined f (i + n) m
unfolding joined
joined_more f i zero m =
    let s : i + 0 ≡ i = omega arith in
    let z : 0 + m ≡ m = omega arith in
    rw (s, z) refl
joined_more f i (suc n) m =
    let s : i + suc n ≡ i + 1 + n = omega arith in
    let z : suc n + m ≡ suc (n + m) = omega arith in
    rw (s, z) (ap (λ (x : List ℕ). f i ++ x) (joined_more f (i + 1) n m) ∙ sym (append_assoc (f i) (joined f (i + 1) n) (joined f (i + 1 + n) m)))

length_put : (es : List Entry) (b : List ℕ) (i : ℕ) → Every Fits es → length b ≡ block_bytes → i + length es ≤ record_room
    → length (put_all b i es) ≡ block_bytes
unfolding Every put_all
length_put [] b i h n l = n
length_put (e ∷ es) b i h n l =
    let p = put_step b i e n (omega arith) (few e h.0) in
    length_put es (put_of b i e).block (i + 1) h.1 (ap length p ∙ (length-sets b (record_start i) (record_of e) ∙ n)) (omega arith)

all_put : (es : List Entry) (b : List ℕ) (i : ℕ) → Every Fits es → length b ≡ block_bytes → i + length es ≤ record_room
    → take (record_start (i + length es)) (put_all b i es) ≡ take (record_start i) b ++ joined (part_of record_of record_bytes es) 0 (length es)
unfolding Every put_all joined
all_put [] b i h n l =
    let s : i + 0 ≡ i = omega arith in
    rw (s, append-nil) refl
all_put (e ∷ es) b i h n l =
    let p = put_step b i e n (omega arith) (few e h.0) in
    let c = (put_of b i e).block in
    let m : length c ≡ block_bytes = ap length p ∙ (length-sets b (record_start i) (record_of e) ∙ n) in
    let s : i + suc (length es) ≡ i + 1 + length es = omega arith in
    let t : record_start (i + 1) ≡ record_start i + record_bytes = omega arith in
    let here : take (record_start (i + 1)) c ≡ take (record_start i) b ++ record_of e =
    ap (take (record_start (i + 1))) p
    ∙ (ap (λ (k : ℕ). take k (with_record b i e)) t
    ∙ stored b (record_start i) record_bytes (record_of e) (length_record e) (omega arith)) in
    let rest = joined (part_of record_of record_bytes es) 0 (length es) in
    let first : part_of record_of record_bytes (e ∷ es) 0 ≡ record_of e = first_part e es in
    rw s
    (all_put es c (i + 1) h.1 m (omega arith)
    ∙ (ap (λ (x : List ℕ). x ++ rest) here
    ∙ (append_assoc (take (record_start i) b) (record_of e) rest
    ∙ cc (first, joined_shift e es 0 (length es)))))

-- ---- the rest
module _ (b : List ℕ) (place : ℕ) (es : List Entry) (size : length b ≡ block_bytes) (room : length es ≤ record_room)
    (kept : part b head_bytes (record_bytes * length es) ≡ joined (part_of record_of record_bytes es) 0 (length es)) where
  headed : List ℕ
  headed = with_head b place (length es)

  cleared : List ℕ
  cleared = without_past (with_head b place (length es)) (length es)

  head : List ℕ
  head = bytes_of place_bytes place ++ (length es ∷ replicate head_zero_bytes 0)

  length_head : length head ≡ head_bytes
  unfolding head
  length_head = simp (length-append, length_bytes) refl

  length_headed : length headed ≡ block_bytes
  unfolding headed
  length_headed = length-sets b 0 (bytes_of place_bytes place ++ (length es ∷ replicate head_zero_bytes 0)) ∙ size

  length_cleared : length cleared ≡ block_bytes
  unfolding cleared
  length_cleared =
      length-sets (with_head b place (length es)) (record_start (length es)) (replicate (record_bytes * (record_room - length es)) 0)
      ∙ (length-sets b 0 (bytes_of place_bytes place ++ (length es ∷ replicate head_zero_bytes 0)) ∙ size)

  head_stored : take (record_start (length es)) headed ≡ head ++ joined (part_of record_of record_bytes es) 0 (length es)
  unfolding headed head
  head_stored =
      let n = length_head in
      let l : 0 + length head ≤ length b = omega arith in
      let s : record_start (length es) ≡ length head + record_bytes * length es = omega arith in
      let z : 0 + length head ≡ head_bytes = omega arith in
      ap (λ (x : List ℕ). take (record_start (length es)) x) (sets-eq head b 0 l)
      ∙ (ap (λ (k : ℕ). take k (head ++ drop (0 + length head) b)) s
      ∙ (take-append-add head (drop (0 + length head) b) (record_bytes * length es)
      ∙ (ap (λ (k : ℕ). head ++ take (record_bytes * length es) (drop k b)) z ∙ ap (λ (x : List ℕ). head ++ x) kept)))

  past_zeros : joined (part_of record_of record_bytes es) (0 + length es) (record_room - length es) ≡ replicate (record_bytes * (record_room - length es)) 0
  past_zeros =
      joined_same _ (λ j. replicate record_bytes 0) (0 + length es) (record_room - length es)
      (λ j a c. part_past record_of record_bytes es j (omega arith))
      ∙ joined_zeros record_bytes (0 + length es) (record_room - length es)

  front_stored : take sum_byte cleared ≡ front_of place es
  unfolding cleared headed head front_of
  front_stored =
      let records = joined (part_of record_of record_bytes es) 0 (length es) in
      let zeros : List ℕ = replicate (record_bytes * (record_room - length es)) 0 in
      let n = length_headed in
      let s : sum_byte ≡ record_start (length es) + record_bytes * (record_room - length es) = omega arith in
      let r : length es + (record_room - length es) ≡ record_room = omega arith in
      let all : records ++ zeros ≡ joined (part_of record_of record_bytes es) 0 record_room =
      sym
      (ap (joined (part_of record_of record_bytes es) 0) (sym r)
      ∙ (joined_more (part_of record_of record_bytes es) 0 (length es) (record_room - length es)
      ∙ ap (λ (x : List ℕ). records ++ x) past_zeros)) in
      ap (λ (k : ℕ). take k cleared) s
      ∙ (stored headed (record_start (length es)) (record_bytes * (record_room - length es)) zeros (length-replicate _ _) (omega arith)
      ∙ (ap (λ (x : List ℕ). x ++ zeros) head_stored
      ∙ (append_assoc head records zeros
      ∙ (ap (λ (x : List ℕ). head ++ x) all
      ∙ append_assoc (bytes_of place_bytes place) (length es ∷ replicate head_zero_bytes 0) (joined (part_of record_of record_bytes es) 0 record_room)))))

  sealed_block : sealed b place (length es) ≡ block_of place es
  unfolding cleared block_of
  sealed_block =
      let n = length_cleared in
      let v = bytes_of sum_bytes (sum_of cleared) in
      let m : length (sets cleared sum_byte v) ≡ block_bytes = length-sets cleared sum_byte v ∙ n in
      let t : sum_of cleared ≡ sum_of (take sum_byte cleared) =
      ap sum_of (sym (take-append-drop sum_byte cleared))
      ∙ sum_front (take sum_byte cleared) (drop sum_byte cleared) (length-take-le sum_byte cleared (omega arith)) in
      sym (take_all block_bytes (sets cleared sum_byte v) (omega arith))
      ∙ (stored cleared sum_byte sum_bytes v (length_bytes sum_bytes (sum_of cleared)) (omega arith)
      ∙ cc (front_stored, t))

-- Records put one after the other into 512 bytes, whatever they held, and sealed: the block that is written of them.
pub put_sealed : (b : List ℕ) (place : ℕ) (es : List Entry) → length b ≡ block_bytes → Every Fits es → length es ≤ record_room
    → seal_of (put_all b 0 es) place (length es) ≡ record { answer = true; block = block_of place es }
unfolding seal_of unless
put_sealed b place es n h l =
    let z : 0 + length es ≡ length es = omega arith in
    let c = put_all b 0 es in
    let m : length c ≡ block_bytes = length_put es b 0 h n (omega arith) in
    let p : take (record_start (length es)) c ≡ take head_bytes b ++ joined (part_of record_of record_bytes es) 0 (length es) =
    ap (λ (k : ℕ). take (record_start k) c) (sym z) ∙ all_put es b 0 h n (omega arith) in
    let f : length (take head_bytes b) ≡ head_bytes = length-take-le head_bytes b (omega arith) in
    let kept : part c head_bytes (record_bytes * length es) ≡ joined (part_of record_of record_bytes es) 0 (length es) =
    sym (take_drop head_bytes (record_bytes * length es) c)
    ∙ (ap (drop head_bytes) p ∙ drop_at (take head_bytes b) (joined (part_of record_of record_bytes es) 0 (length es)) head_bytes f) in
    rw (eq-eqb _ _ m, le-leb _ _ l) (cc (sealed_block c place es m l kept))
