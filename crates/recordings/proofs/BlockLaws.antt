-- What a good block says of its parts, and where the blocks of a recording stand.
use Prim.Native.Nat.{ℕ, ◌-◌, ◌≤◌, ◌<◌}
use mathlib.Core.Path.{◌≡◌, sym}
use mathlib.Core.Bool.{Bool, true, false}
use mathlib.Core.List.{List}
use native.Mathlib.Omega.{arith}
use borrow.Author.Tests.{leb-true, eqb-true, lt-ltb, ne_eqb}
use lib.ListN.{length, length-take, length-drop}
use Rattle.laws.specs.Below.{all_below}
use Rattle.laws.proofs.BelowLaws.{and_first, and_rest, and_no, all_at}
use Rattle.recordings.specs.Layout.{block_bytes, record_room}
use Rattle.recordings.specs.Records.{good_record}
use Rattle.recordings.specs.Blocks.{count_in, record_part, good_count, good_slot, good_block, blocks_in, block_start, block_at, good_at}

-- a good block: its length, its count, its records
pub record Good (b : List ℕ) (last : Bool) : Type 0 where
  pub size : length b ≡ block_bytes
  pub count : count_in b ≤ record_room
  pub full : last ≡ false → count_in b ≡ record_room
  pub slots : all_below record_room (good_slot b) ≡ true

counted : (n : ℕ) (last : Bool) → good_count n last ≡ true → n ≤ record_room
counted n true h = leb-true _ _ h
counted n false h = let e : n ≡ 15 = eqb-true _ _ h in omega arith

filled : (n : ℕ) (last : Bool) → good_count n last ≡ true → last ≡ false → n ≡ record_room
filled n last h e = eqb-true _ _ (rw e at h)

pub good_parts : (b : List ℕ) (place : ℕ) (last : Bool) → good_block b place last ≡ true → Good b last
unfolding good_block
good_parts b place last h =
    let head = and_rest _ _ (and_rest _ _ h) in
    record {
      size = eqb-true _ _ (and_first _ _ h);
      count = counted _ last (and_first _ _ head);
      full = filled _ last (and_first _ _ head);
      slots = and_rest _ _ (and_rest _ _ (and_rest _ _ head));
    }

-- a record below the count is good
pub slot_good : (b : List ℕ) (i : ℕ) → all_below record_room (good_slot b) ≡ true → i < count_in b → i < record_room
    → good_record (record_part b i) ≡ true
unfolding good_slot
slot_good b i h l m = rw (lt-ltb _ _ l) at (all_at (good_slot b) record_room i h m)

-- ---- the blocks of a recording
pub block_starts : (n k : ℕ) → k < blocks_in n → block_start k < n
unfolding blocks_in
block_starts n k l = omega arith

-- a short block is bad
pub short_block : (bytes : List ℕ) (k : ℕ) → length bytes - block_start k < block_bytes → good_at bytes k ≡ false
unfolding good_block
short_block bytes k l =
    let n : length (block_at bytes k) ≡ block_bytes → ⊥ =
    λ e. omega (arith, e, simp (length-take, length-drop) at e) in
    sym (and_no _ (ne_eqb _ _ n))
