-- A record: what is written is good and reads back, and a good one is what is written of what it reads as.
use Prim.Native.Nat.{ℕ, ◌+◌, ◌-◌, ◌*◌, ◌≤◌, ◌<◌}
use mathlib.Core.Path.{◌≡◌, refl, sym, ap, ◌∙◌}
use mathlib.Core.Bool.{true}
use mathlib.Core.List.{List, ◌∷◌, ◌++◌}
use native.Mathlib.Omega.{arith}
use borrow.Author.Tests.{leb-true, le-leb, eqb-true, eq-eqb, ne_eqb}
use lib.Dec.{eqb}
use lib.ListN.{length, get_or, replicate, length-append, length-replicate}
use lib.Seq.{take_all}
use Rattle.laws.specs.Below.{◌and◌}
use Rattle.laws.proofs.BelowLaws.{and_first, and_rest, and_both}
use Rattle.recordings.specs.Layout.{record_bytes, posts_bytes, post_bytes, post_room, first_post, step_kind, wait_kind}
use Rattle.recordings.specs.Layout.{kind_byte, graph_byte, posts_byte, zero_byte, amount_byte, amount_bytes, word_byte, word_bytes, answer_byte, tail_byte, tail_bytes}
use Rattle.recordings.specs.Numbers.{byte, Bytes, number_of, part, number_at, bytes_of, zeros_at, row}
use Rattle.recordings.specs.Records.{Entry, step, wait, kind_in, graph_in, post_count_in, amount_in, post_in, word_in, answer_in}
use Rattle.recordings.specs.Records.{entry_of, good_step, good_wait, good_kind, good_record}
use Rattle.recordings.specs.Writing.{part_of, fields_of, posts_of, record_of, Every, Wide, Fits}
use Rattle.recordings.proofs.DigitLaws.{length_bytes, digits_read, bytes_append, bytes_cons, bytes_number, bytes_zeros}
use Rattle.recordings.proofs.PartLaws.{part_at, part_more, part_next, part_here, part_skip, zeros_part, part_zeros}
use Rattle.recordings.proofs.PartLaws.{joined_bytes, length_joined, parts_read, length_row, row_same, every_kept, every_all, every_row}
use Rattle.recordings.proofs.PartLaws.{below_or_not, parts_written, part_any, length_part_of, row_read, zeros_past, number_written, number_wide}
use Rattle.recordings.proofs.RecordLaws.{step_entry, wait_entry, few_posts_lem}

-- ---- fields
module _ (kind graph count amount : ℕ) (posts : List ℕ) (word answer : ℕ) (e : length posts ≡ posts_bytes) where
  length_fields : length (fields_of kind graph count amount posts word answer) ≡ record_bytes
  unfolding fields_of
  length_fields = simp (length-append, length_bytes, length-replicate) (omega arith)

  fields_amount : Wide amount_bytes amount → amount_in (fields_of kind graph count amount posts word answer) ≡ amount
  unfolding fields_of number_at
  fields_amount l =
      ap number_of (part_here (bytes_of amount_bytes amount) _ amount_bytes (length_bytes amount_bytes amount)) ∙ digits_read amount_bytes amount l

  fields_posts : part (fields_of kind graph count amount posts word answer) first_post posts_bytes ≡ posts
  unfolding fields_of
  fields_posts =
      part_skip (bytes_of amount_bytes amount) _ amount_bytes 0 posts_bytes (length_bytes amount_bytes amount)
      ∙ part_here posts _ posts_bytes e

  -- what stands from the word on
  from_word : (at n : ℕ)
      → part (fields_of kind graph count amount posts word answer) (word_byte + at) n
      ≡ part (bytes_of word_bytes word ++ (answer ∷ replicate tail_bytes 0)) at n
  unfolding fields_of
  from_word at n =
      let s : word_byte + at ≡ first_post + (posts_bytes + at) = omega arith in
      let l : length (kind ∷ graph ∷ count ∷ 0 ∷ bytes_of amount_bytes amount) ≡ first_post = rw (length_bytes amount_bytes amount) refl in
      ap (λ (k : ℕ). part (fields_of kind graph count amount posts word answer) k n) s
      ∙ (part_skip (kind ∷ graph ∷ count ∷ 0 ∷ bytes_of amount_bytes amount) _ first_post (posts_bytes + at) n l
      ∙ part_skip posts _ posts_bytes at n e)

  word_part : part (fields_of kind graph count amount posts word answer) word_byte word_bytes ≡ bytes_of word_bytes word
  word_part = from_word 0 word_bytes ∙ part_here (bytes_of word_bytes word) _ word_bytes (length_bytes word_bytes word)

  fields_word : Wide word_bytes word → word_in (fields_of kind graph count amount posts word answer) ≡ word
  unfolding number_at
  fields_word l = ap number_of word_part ∙ digits_read word_bytes word l

  fields_answer : answer_in (fields_of kind graph count amount posts word answer) ≡ answer
  fields_answer =
      sym (part_at (fields_of kind graph count amount posts word answer) answer_byte 1 0 (omega arith))
      ∙ ap (λ (p : List ℕ). get_or p 0 0)
      (from_word word_bytes 1 ∙ part_skip (bytes_of word_bytes word) (answer ∷ replicate tail_bytes 0) word_bytes 0 1 (length_bytes word_bytes word))

  fields_tail : zeros_at (fields_of kind graph count amount posts word answer) tail_byte tail_bytes ≡ true
  fields_tail =
      part_zeros (fields_of kind graph count amount posts word answer) tail_byte tail_bytes
      (from_word (word_bytes + 1) tail_bytes
      ∙ part_skip (bytes_of word_bytes word) (answer ∷ replicate tail_bytes 0) word_bytes 1 tail_bytes (length_bytes word_bytes word))

  fields_bytes : kind < byte → graph < byte → count < byte → Bytes posts → answer < byte
      → Bytes (fields_of kind graph count amount posts word answer)
  unfolding fields_of
  fields_bytes k g c h a =
      let last = answer ∷ replicate tail_bytes 0 in
      let words = bytes_of word_bytes word ++ last in
      let rest = bytes_of amount_bytes amount ++ (posts ++ words) in
      let here : Bytes rest =
      bytes_append (bytes_of amount_bytes amount) (posts ++ words) (bytes_number amount_bytes amount)
      (bytes_append posts words h
      (bytes_append (bytes_of word_bytes word) last (bytes_number word_bytes word)
      (bytes_cons answer (replicate tail_bytes 0) a (bytes_zeros tail_bytes)))) in
      bytes_cons kind (graph ∷ count ∷ 0 ∷ rest) k
      (bytes_cons graph (count ∷ 0 ∷ rest) g
      (bytes_cons count (0 ∷ rest) c
      (bytes_cons 0 rest (omega arith) here)))

-- ---- what is written
pub length_posts : (posts : List ℕ) → length (posts_of posts) ≡ posts_bytes
length_posts posts =
    length_joined (part_of (bytes_of post_bytes) post_bytes posts) post_bytes
    (length_part_of (bytes_of post_bytes) post_bytes (length_bytes post_bytes) posts) 0 post_room

pub length_record : (e : Entry) → length (record_of e) ≡ record_bytes
unfolding record_of
length_record (step g a ps w x) = length_fields step_kind g (length ps) a (posts_of ps) w x (length_posts ps)
length_record (wait d x) = length_fields wait_kind 0 0 d (replicate posts_bytes 0) 0 x (length-replicate {A = ℕ} posts_bytes 0)

pub record_bytes_lem : (e : Entry) → Fits e → Bytes (record_of e)
unfolding record_of Fits
record_bytes_lem (step g a ps w x) h =
    fields_bytes step_kind g (length ps) a (posts_of ps) w x (length_posts ps) (omega arith) h.0 (omega arith)
    (joined_bytes _ 0 post_room
    (λ j. part_any (bytes_of post_bytes) post_bytes Bytes ps j (every_all _ ps (λ p. bytes_number post_bytes p)) (bytes_zeros post_bytes)))
    h.5
record_bytes_lem (wait d x) h =
    fields_bytes wait_kind 0 0 d (replicate posts_bytes 0) 0 x (length-replicate {A = ℕ} posts_bytes 0) (omega arith) (omega arith) (omega arith)
    (bytes_zeros posts_bytes) h.1

pub record_good : (e : Entry) → Fits e → good_record (record_of e) ≡ true
unfolding record_of fields_of Fits good_record good_kind good_step good_wait bytes_of
record_good (step g a ps w x) h =
    let r = fields_of step_kind g (length ps) a (posts_of ps) w x in
    let l = length_fields step_kind g (length ps) a (posts_of ps) w x (length_posts ps) in
    and_both refl
    (and_both (fields_tail step_kind g (length ps) a (posts_of ps) w x (length_posts ps))
    (and_both (le-leb _ _ h.2)
    (zeros_past (bytes_of post_bytes) post_bytes (length_bytes post_bytes) ps r first_post post_room
    (fields_posts step_kind g (length ps) a (posts_of ps) w x (length_posts ps)) (omega arith) h.2)))
record_good (wait d x) h =
    let z = length-replicate {A = ℕ} posts_bytes 0 in
    let r = fields_of wait_kind 0 0 d (replicate posts_bytes 0) 0 x in
    let zeros : part r first_post (posts_bytes + word_bytes) ≡ replicate posts_bytes 0 ++ bytes_of word_bytes 0 =
    cc (
      part_more r first_post posts_bytes word_bytes,
      fields_posts wait_kind 0 0 d (replicate posts_bytes 0) 0 x z,
      word_part wait_kind 0 0 d (replicate posts_bytes 0) 0 x z,
    ) in
    and_both refl
    (and_both (fields_tail wait_kind 0 0 d (replicate posts_bytes 0) 0 x z)
    (and_both refl (and_both refl (and_both refl (part_zeros r first_post (posts_bytes + word_bytes) zeros)))))

-- and what it reads as
module _ (g a : ℕ) (ps : List ℕ) (w x : ℕ) where
  posts_read : length ps ≤ post_room → Every (Wide post_bytes) ps → row (post_in (record_of (step g a ps w x))) 0 (length ps) ≡ ps
  unfolding record_of number_at
  posts_read l h =
      let r = fields_of step_kind g (length ps) a (posts_of ps) w x in
      let n = length_fields step_kind g (length ps) a (posts_of ps) w x (length_posts ps) in
      let f = fields_posts step_kind g (length ps) a (posts_of ps) w x (length_posts ps) in
      row_same _ (λ j. number_of (part_of (bytes_of post_bytes) post_bytes ps j)) 0 (length ps)
      (λ j i k.
      ap number_of
      (parts_read (part_of (bytes_of post_bytes) post_bytes ps) post_bytes (length_part_of (bytes_of post_bytes) post_bytes (length_bytes post_bytes) ps)
      r first_post post_room j f (omega arith) (omega arith)))
      ∙ row_read (bytes_of post_bytes) post_bytes number_of ps (every_kept _ _ ps (λ p. digits_read post_bytes p) h)

pub record_read : (e : Entry) → Fits e → entry_of (record_of e) ≡ e
unfolding Fits entry_of record_of fields_of
record_read (step g a ps w x) h =
    let l = length_posts ps in
    cc (
      fields_amount step_kind g (length ps) a (posts_of ps) w x l h.1,
      posts_read g a ps w x h.2 h.3,
      fields_word step_kind g (length ps) a (posts_of ps) w x l h.4,
      fields_answer step_kind g (length ps) a (posts_of ps) w x l,
    )
record_read (wait d x) h =
    let l = length-replicate {A = ℕ} posts_bytes 0 in
    cc (fields_amount wait_kind 0 0 d (replicate posts_bytes 0) 0 x l h.0, fields_answer wait_kind 0 0 d (replicate posts_bytes 0) 0 x l)

-- ---- what is read
module _ (r : List ℕ) (l : length r ≡ record_bytes) (h : Bytes r) where
  fields_written : get_or r zero_byte 0 ≡ 0 → zeros_at r tail_byte tail_bytes ≡ true
      → fields_of (kind_in r) (graph_in r) (post_count_in r) (amount_in r) (part r first_post posts_bytes) (word_in r) (answer_in r) ≡ r
  unfolding fields_of
  fields_written z t =
      sym
      (cc (
        sym (take_all record_bytes r (omega arith)),
        part_next r kind_byte 31 (omega arith),
        part_next r graph_byte 30 (omega arith),
        part_next r posts_byte 29 (omega arith),
        part_next r zero_byte 28 (omega arith),
        z,
        part_more r amount_byte amount_bytes 24,
        part_more r first_post posts_bytes 16,
        part_more r word_byte word_bytes 8,
        part_next r answer_byte tail_bytes (omega arith),
        zeros_part r tail_byte tail_bytes 0 tail_bytes t (omega arith) (omega arith),
        number_written r h amount_byte amount_bytes (omega arith),
        number_written r h word_byte word_bytes (omega arith),
      ))

  posts_written : good_step r ≡ true → posts_of (row (post_in r) 0 (post_count_in r)) ≡ part r first_post posts_bytes
  unfolding good_step
  posts_written g =
      let c : post_count_in r ≤ post_room = leb-true _ _ (and_first _ _ g) in
      parts_written (bytes_of post_bytes) post_bytes (post_in r) r first_post post_room (post_count_in r)
      (λ j a b. number_written r h (first_post + post_bytes * j) post_bytes (omega arith))
      (λ j a b.
      let s : first_post + post_bytes * post_count_in r + post_bytes * (j - post_count_in r) ≡ first_post + post_bytes * j = omega arith in
      rw s at
      (zeros_part r (first_post + post_bytes * post_count_in r) (post_bytes * (post_room - post_count_in r)) (post_bytes * (j - post_count_in r)) post_bytes
      (and_rest _ _ g) (omega arith) (omega arith)))

  good_fields : good_record r ≡ true
      → fields_of (kind_in r) (graph_in r) (post_count_in r) (amount_in r) (part r first_post posts_bytes) (word_in r) (answer_in r) ≡ r
  unfolding good_record
  good_fields g = fields_written (eqb-true _ _ (and_first _ _ g)) (and_first _ _ (and_rest _ _ g))

  step_written : kind_in r ≡ step_kind → good_record r ≡ true → record_of (entry_of r) ≡ r
  unfolding good_record good_kind record_of
  step_written e g =
      let s : good_step r ≡ true = rw (eq-eqb _ _ e) at (and_rest _ _ (and_rest _ _ g)) in
      ap record_of (step_entry r e) ∙ cc (e, length_row (post_in r) 0 (post_count_in r), posts_written s, good_fields g)

  wait_written : (kind_in r ≡ step_kind → ⊥) → good_record r ≡ true → record_of (entry_of r) ≡ r
  unfolding good_record good_kind good_wait record_of number_at number_of
  wait_written n g =
      let k : (eqb (kind_in r) wait_kind and good_wait r) ≡ true = rw (ne_eqb _ _ n) at (and_rest _ _ (and_rest _ _ g)) in
      let s = and_rest _ _ k in
      let z : zeros_at r first_post (posts_bytes + word_bytes) ≡ true = and_rest _ _ (and_rest _ _ s) in
      let kind : kind_in r ≡ wait_kind = eqb-true _ _ (and_first _ _ k) in
      let graph : graph_in r ≡ 0 = eqb-true _ _ (and_first _ _ s) in
      let count : post_count_in r ≡ 0 = eqb-true _ _ (and_first _ _ (and_rest _ _ s)) in
      let word : word_in r ≡ 0 = ap number_of (zeros_part r first_post (posts_bytes + word_bytes) posts_bytes word_bytes z (omega arith) (omega arith)) in
      let posts = zeros_part r first_post (posts_bytes + word_bytes) 0 posts_bytes z (omega arith) (omega arith) in
      ap record_of (wait_entry r n) ∙ cc (kind, graph, count, word, posts, good_fields g)

  by_kind : {P : Type 0} → (kind_in r ≡ step_kind → P) → ((kind_in r ≡ step_kind → ⊥) → P) → P
  by_kind f g =
      below_or_not (kind_in r) step_kind (λ l. g (λ e. omega arith))
      (λ l. below_or_not step_kind (kind_in r) (λ k. g (λ e. omega arith)) (λ k. f (omega arith)))

  -- a good record is what is written of what it reads as
  pub record_written : good_record r ≡ true → record_of (entry_of r) ≡ r
  record_written g = by_kind (λ e. step_written e g) (λ n. wait_written n g)

  -- and that can be written
  pub record_fits : good_record r ≡ true → Fits (entry_of r)
  unfolding Fits
  record_fits g =
      by_kind
      (λ e.
      let c = few_posts_lem r g e in
      rw (step_entry r e) (
        h graph_byte,
        number_wide r h amount_byte amount_bytes (omega arith),
        rw (length_row (post_in r) 0 (post_count_in r)) c,
        every_row (Wide post_bytes) (post_in r) 0 (post_count_in r) (λ j a b. number_wide r h (first_post + post_bytes * j) post_bytes (omega arith)),
        number_wide r h word_byte word_bytes (omega arith),
        h answer_byte,
      ))
      (λ n. rw (wait_entry r n) (number_wide r h amount_byte amount_bytes (omega arith), h answer_byte))
