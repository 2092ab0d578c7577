-- A block: what is written is good and reads back, and a good one is what is written of the records that it reads as.
use Prim.Native.Nat.{ℕ, zero, suc, ◌+◌, ◌*◌, ◌≤◌, ◌<◌}
use mathlib.Core.Path.{◌≡◌, refl, sym, ap, ◌∙◌}
use mathlib.Core.Bool.{Bool, true}
use mathlib.Core.List.{List, ◌∷◌, ◌++◌}
use native.Mathlib.Nat.{mul-le-mul, le_trans}
use native.Mathlib.Omega.{arith}
use borrow.Author.Tests.{eqb-true, eq-eqb, lt-ltb, le-ltb}
use lib.ListN.{length, get_or, replicate, length-append, length-replicate, get_or-append}
use lib.Seq.{take_all}
use Rattle.laws.specs.Below.{sum_below}
use Rattle.laws.proofs.BelowLaws.{and_first, and_rest, and_both, all_at, all_from, sum_same}
use Rattle.recordings.specs.Layout.{block_bytes, place_bytes, count_byte, head_zeros, head_zero_bytes, head_bytes, record_room, record_bytes, record_start}
use Rattle.recordings.specs.Layout.{sum_byte, sum_bytes}
use Rattle.recordings.specs.Numbers.{Bytes, number_of, part, number_at, bytes_of, zeros_at}
use Rattle.recordings.specs.Records.{Entry, entry_of, good_record}
use Rattle.recordings.specs.Blocks.{weighed, sum_of, place_in, count_in, sum_in, record_part, entry_at, entries_of, good_count, good_slot, good_block}
use Rattle.recordings.specs.Writing.{part_of, joined, record_of, front_of, block_of, Every, Wide, Fits}
use Rattle.recordings.proofs.DigitLaws.{length_bytes, digits_read, bytes_append, bytes_cons, bytes_number, bytes_zeros}
use Rattle.recordings.proofs.PartLaws.{length_part, part_more, part_next, part_here, part_skip, part_left, zeros_part, part_zeros}
use Rattle.recordings.proofs.PartLaws.{joined_bytes, length_joined, parts_read, length_row, row_same, every_kept, every_row, bytes_part}
use Rattle.recordings.proofs.PartLaws.{part_past, part_every, part_any, length_part_of, row_read, parts_written, below_or_not, number_written}
use Rattle.recordings.proofs.RecordWriting.{length_record, record_bytes_lem, record_good, record_read, record_written, record_fits}
use Rattle.recordings.proofs.BlockLaws.{Good, good_parts, slot_good}

-- ---- the sum
-- of bytes it fits
sum_below_lem : (xs : List ℕ) → Bytes xs → (n : ℕ) → n ≤ sum_byte → sum_below n (weighed xs) ≤ 129540 * n
unfolding sum_below
sum_below_lem xs h zero l = omega arith
sum_below_lem xs h (suc n) l =
    let b : get_or xs n 0 < 256 = h n in
    let m : get_or xs n 0 * (n + 1) ≤ 129540 = le_trans (mul-le-mul {n₂ = 255} {m₂ = 508} (omega arith) (omega arith)) (omega arith) in
    omega (arith, sum_below_lem xs h n (omega arith))

pub sum_fits : (xs : List ℕ) → Bytes xs → Wide sum_bytes (sum_of xs)
unfolding sum_of
sum_fits xs h = omega (arith, sum_below_lem xs h sum_byte (omega arith))

-- only the bytes before it count
pub sum_front : (xs ys : List ℕ) → length xs ≡ sum_byte → sum_of (xs ++ ys) ≡ sum_of xs
unfolding sum_of
sum_front xs ys e =
    sum_same _ _ sum_byte (λ i l. ap (λ (b : ℕ). b * (i + 1)) (get_or-append xs ys 0 i (omega arith)))

-- ---- what is written
module _ (place : ℕ) (es : List Entry) where
  length_records : length (joined (part_of record_of record_bytes es) 0 record_room) ≡ record_bytes * record_room
  length_records =
      length_joined (part_of record_of record_bytes es) record_bytes (length_part_of record_of record_bytes length_record es) 0 record_room

  pub length_front : length (front_of place es) ≡ sum_byte
  unfolding front_of
  length_front =
      let e = length_records in
      simp (length-append, length_bytes, length-replicate) (omega arith)

  pub length_block : length (block_of place es) ≡ block_bytes
  unfolding block_of
  length_block = let e = length_front in simp (length-append, length_bytes) (omega arith)

  records_part : part (block_of place es) head_bytes (record_bytes * record_room) ≡ joined (part_of record_of record_bytes es) 0 record_room
  unfolding block_of front_of
  records_part =
      let records = joined (part_of record_of record_bytes es) 0 record_room in
      part_left (front_of place es) head_bytes (record_bytes * record_room) _ (omega (arith, length_front))
      ∙ (part_skip (bytes_of place_bytes place) (length es ∷ (replicate head_zero_bytes 0 ++ records)) place_bytes 24 (record_bytes * record_room)
      (length_bytes place_bytes place) ∙ take_all (record_bytes * record_room) records (omega (arith, length_records)))

  place_back : Wide place_bytes place → place_in (block_of place es) ≡ place
  unfolding block_of front_of number_at
  place_back l =
      ap number_of
      (part_left (front_of place es) 0 place_bytes _ (omega (arith, length_front))
      ∙ part_here (bytes_of place_bytes place) _ place_bytes (length_bytes place_bytes place))
      ∙ digits_read place_bytes place l

  count_back : count_in (block_of place es) ≡ length es
  unfolding block_of front_of bytes_of
  count_back = refl

  zeros_back : zeros_at (block_of place es) head_zeros head_zero_bytes ≡ true
  unfolding block_of front_of bytes_of
  zeros_back = part_zeros (block_of place es) head_zeros head_zero_bytes refl

  record_back : (i : ℕ) → i < record_room → record_part (block_of place es) i ≡ part_of record_of record_bytes es i
  record_back i l =
      parts_read (part_of record_of record_bytes es) record_bytes (length_part_of record_of record_bytes length_record es)
      (block_of place es) head_bytes record_room i records_part (omega (arith, length_block)) l

  module _ (fits : Every Fits es) (room : length es ≤ record_room) where
    front_bytes : Bytes (front_of place es)
    unfolding front_of
    front_bytes =
        let records = joined (part_of record_of record_bytes es) 0 record_room in
        bytes_append (bytes_of place_bytes place) (length es ∷ (replicate head_zero_bytes 0 ++ records)) (bytes_number place_bytes place)
        (bytes_cons (length es) (replicate head_zero_bytes 0 ++ records) (omega arith)
        (bytes_append (replicate head_zero_bytes 0) records (bytes_zeros head_zero_bytes)
        (joined_bytes _ 0 record_room
        (λ j. part_any record_of record_bytes Bytes es j (every_kept Fits _ es record_bytes_lem fits) (bytes_zeros record_bytes)))))

    pub block_bytes_lem : Bytes (block_of place es)
    unfolding block_of
    block_bytes_lem = bytes_append (front_of place es) _ front_bytes (bytes_number sum_bytes (sum_of (front_of place es)))

    sum_back : sum_in (block_of place es) ≡ sum_of (block_of place es)
    unfolding block_of number_at
    sum_back =
        let s = sum_of (front_of place es) in
        ap number_of
        (part_skip (front_of place es) (bytes_of sum_bytes s) sum_byte 0 sum_bytes length_front
        ∙ take_all sum_bytes (bytes_of sum_bytes s) (omega (arith, length_bytes sum_bytes s)))
        ∙ (digits_read sum_bytes s (sum_fits (front_of place es) front_bytes)
        ∙ sym (sum_front (front_of place es) (bytes_of sum_bytes s) length_front))

    slot_back : (i : ℕ) → i < record_room → good_slot (block_of place es) i ≡ true
    unfolding good_slot
    slot_back i l =
        let e = record_back i l in
        below_or_not i (length es)
        (λ k.
        rw (count_back, lt-ltb _ _ k)
        (ap good_record e ∙ part_every record_of record_bytes (λ r. good_record r ≡ true) es i (every_kept Fits _ es record_good fits) k))
        (λ k.
        rw (count_back, le-ltb _ _ k)
        (part_zeros _ 0 record_bytes (ap (λ (r : List ℕ). part r 0 record_bytes) (e ∙ part_past record_of record_bytes es i k))))

    -- A written block is good at its place.
    pub written_good : (last : Bool) → Wide place_bytes place → good_count (length es) last ≡ true
        → good_block (block_of place es) place last ≡ true
    unfolding good_block
    written_good last l c =
        and_both (eq-eqb _ _ length_block)
        (and_both (eq-eqb _ _ (place_back l))
        (and_both (rw count_back c)
        (and_both zeros_back (and_both (eq-eqb _ _ sum_back) (all_from _ record_room slot_back)))))

    -- It reads back as the same records.
    pub written_read : entries_of (block_of place es) ≡ es
    written_read =
        rw count_back
        (row_same _ (λ j. entry_of (part_of record_of record_bytes es j)) 0 (length es)
        (λ j a b. ap entry_of (record_back j (omega arith)))
        ∙ row_read record_of record_bytes entry_of es (every_kept Fits _ es record_read fits))

-- ---- what is read
module _ (b : List ℕ) (bytes : Bytes b) (place : ℕ) (last : Bool) (good : good_block b place last ≡ true) where
  parts : Good b last
  parts = good_parts b place last good

  record_size : (i : ℕ) → i < record_room → length (record_part b i) ≡ record_bytes
  record_size i l = length_part b (record_start i) record_bytes (omega (arith, parts.size))

  record_bytes_in : (i : ℕ) → Bytes (record_part b i)
  record_bytes_in i = bytes_part b (record_start i) record_bytes bytes

  slot_past : (i : ℕ) → count_in b ≤ i → i < record_room → record_part b i ≡ replicate record_bytes 0
  unfolding good_slot
  slot_past i k l =
      let z : zeros_at (record_part b i) 0 record_bytes ≡ true = rw (le-ltb _ _ k) at (all_at (good_slot b) record_room i parts.slots l) in
      let n = record_size i l in
      sym (take_all record_bytes (record_part b i) (omega arith))
      ∙ zeros_part (record_part b i) 0 record_bytes 0 record_bytes z (omega arith) (omega arith)

  records_written : joined (part_of record_of record_bytes (entries_of b)) 0 record_room ≡ part b head_bytes (record_bytes * record_room)
  records_written =
      parts_written record_of record_bytes (entry_at b) b head_bytes record_room (count_in b)
      (λ i k l. record_written (record_part b i) (record_size i l) (record_bytes_in i) (slot_good b i parts.slots k l))
      slot_past

  front_written : front_of place (entries_of b) ≡ part b 0 sum_byte
  unfolding front_of good_block
  front_written =
      let n = parts.size in
      let p : place_in b ≡ place = eqb-true _ _ (and_first _ _ (and_rest _ _ good)) in
      let z : zeros_at b head_zeros head_zero_bytes ≡ true = and_first _ _ (and_rest _ _ (and_rest _ _ (and_rest _ _ good))) in
      sym
      (cc (
        p,
        number_written b bytes 0 place_bytes (omega arith),
        length_row (entry_at b) 0 (count_in b),
        zeros_part b head_zeros head_zero_bytes 0 head_zero_bytes z (omega arith) (omega arith),
        records_written,
        part_more b 0 place_bytes 504,
        part_next b count_byte 503 (omega arith),
        part_more b head_zeros head_zero_bytes 480,
      ))

  -- A good block at a place is the block that is written there of the records that it reads as.
  pub block_written : block_of place (entries_of b) ≡ b
  unfolding block_of good_block
  block_written =
      let n = parts.size in
      let s : sum_in b ≡ sum_of b =
      eqb-true _ _ (and_first _ _ (and_rest _ _ (and_rest _ _ (and_rest _ _ (and_rest _ _ good))))) in
      let whole : part b 0 sum_byte ++ part b sum_byte sum_bytes ≡ b =
      sym (part_more b 0 sum_byte sum_bytes) ∙ take_all block_bytes b (omega arith) in
      let front : sum_of b ≡ sum_of (part b 0 sum_byte) =
      ap sum_of (sym whole) ∙ sum_front (part b 0 sum_byte) (part b sum_byte sum_bytes) (length_part b 0 sum_byte (omega arith)) in
      cc (front_written, s, front, whole, number_written b bytes sum_byte sum_bytes (omega arith))

  -- Its records can be written.
  pub entries_fit : Every Fits (entries_of b)
  entries_fit =
      let c = parts.count in
      every_row Fits (entry_at b) 0 (count_in b)
      (λ i k l.
      record_fits (record_part b i) (record_size i (omega arith)) (record_bytes_in i) (slot_good b i parts.slots (omega arith) (omega arith)))

-- Only one block at a place reads as a given list of records.
pub one_block : (b c : List ℕ) (place : ℕ) (last end : Bool) → Bytes b → Bytes c → good_block b place last ≡ true → good_block c place end ≡ true
    → entries_of b ≡ entries_of c → b ≡ c
one_block b c place last end h k g f e =
    sym (block_written b h place last g) ∙ (ap (block_of place) e ∙ block_written c k place end f)
