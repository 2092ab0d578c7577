-- Laws of a queue as a list: one more value stands at its end, received ones are gone from its front, whatever the counts are.
use Rattle.std.proofs.Common.{◌≡◌, ℕ, zero, suc, ◌+◌, ◌-◌, ◌%◌, ◌<◌, ◌≤◌, List, [], ◌∷◌, ◌++◌, length, get_or, drop, set, sym, refl, ap, ◌∙◌, ⊎_elim, le_of_suc-le-suc, not-suc-le-zero, eq-or-lt_of_le, arith, length-append, length-drop, length-set, get_or-drop, get_or-set_other, get_or-set_same, ext_get_or}
use lib.ListN.{get_or-append}
use lib.Seq.{get_or_at}
use Rattle.laws.proofs.Copies.{one_more}
use Rattle.grammar.specs.Evaluation.{blank}
use Rattle.grammar.specs.Slots.{kind_in, payload_in, FitVal}
use Rattle.grammar.specs.declared.values.Val.{Val}
use Rattle.grammar.specs.declared.values.Slot.{Slot}
use Rattle.grammar.proofs.SlotLaws.{val_back}
use Rattle.graph_tables.specs.Sizes.{word32}
use Rattle.queues.specs.Layout.{slot_room, QueueWords, read_at, write_at, read_of, write_of, kind_place, payload_place}
use Rattle.queues.specs.Queues.{later, stored_of, count_at, kind_word_at, payload_word_at, slot_at, list_of, queue_of}
use Rattle.queues.specs.Queues.{Counted, QueueFormed, pushed, dropped, emptied}

-- ---- counts
pub stored_small : (q : List ℕ) → stored_of q < word32
unfolding stored_of
stored_small q = omega arith

-- what is taken from the write count to the read count gives the number stored, and no other does
pub stored_is : (q : List ℕ) (n : ℕ) → Counted q → n < word32 → later n (read_of q) ≡ write_of q → n ≡ stored_of q
unfolding stored_of
stored_is q n f h e = omega (arith, f.read, f.write)

-- behind the newest value stands the write count
pub count_end : (q : List ℕ) → Counted q → count_at q (stored_of q) ≡ write_of q
unfolding stored_of
count_end q f = omega (arith, f.read, f.write)

-- places are used again after whole rounds, also where a count wraps
round : (x : ℕ) → x % word32 % slot_room ≡ x % slot_room
round x = omega arith

near : (a n i : ℕ) → i < n → n < slot_room → (a + i) % slot_room ≡ (a + n) % slot_room → ⊥
near a n i l h e = omega arith

-- a stored value does not stand where the next one is written
pub apart : (q : List ℕ) (i : ℕ) → Counted q → stored_of q < slot_room → i < stored_of q
    → count_at q i % slot_room ≡ write_of q % slot_room → ⊥
apart q i f h l e =
    near (read_of q) (stored_of q) i l h
    (sym (round (read_of q + i)) ∙ e ∙ ap (λ (c : ℕ). c % slot_room) (sym (count_end q f)) ∙ round (read_of q + stored_of q))

-- ---- the list by its places
pub list_length : (f : ℕ → Slot) (n : ℕ) → length (list_of f n) ≡ n
unfolding list_of
list_length f zero = refl
list_length f (suc n) = length-append (list_of f n) _ ∙ omega (arith, list_length f n)

pub list_at : (f : ℕ → Slot) (n i : ℕ) → i < n → get_or (list_of f n) i blank ≡ f i
unfolding list_of
list_at f zero i h = absurd (not-suc-le-zero h)
list_at f (suc n) i h =
    ⊎_elim
    (λ (e : i ≡ n). rw e (get_or_at (list_of f n) _ [] blank n (list_length f n)))
    (λ (l : i < n). get_or-append (list_of f n) _ blank i (omega (arith, list_length f n)) ∙ list_at f n i l)
    (eq-or-lt_of_le (le_of_suc-le-suc h))

pub queue_length : (q : List ℕ) → length (queue_of q) ≡ stored_of q
unfolding queue_of
queue_length q = list_length _ (stored_of q)

-- a stored value is that of its two words
pub queue_at : (q : List ℕ) (i : ℕ) → i < stored_of q → get_or (queue_of q) i blank ≡ slot_at q i
unfolding queue_of
queue_at q i h = list_at _ (stored_of q) i h

-- ---- a push
module _ (q : List ℕ) (x : Val) (f : Counted q) where
  pub push_length : length (pushed q x) ≡ length q
  unfolding pushed
  push_length = simp length-set

  -- the value is in its place, and the count is yet to move
  abbrev kinded : List ℕ
  kinded = set q (kind_place (write_of q)) (kind_in x)

  abbrev valued : List ℕ
  valued = set kinded (payload_place (write_of q)) (payload_in x)

  push_other : (i : ℕ) → (i ≡ write_at → ⊥) → (i ≡ kind_place (write_of q) → ⊥) → (i ≡ payload_place (write_of q) → ⊥)
      → get_or (pushed q x) i 0 ≡ get_or q i 0
  unfolding pushed
  push_other i a b d =
      get_or-set_other valued write_at i (later (write_of q) 1) 0 a
      ∙ get_or-set_other kinded (payload_place (write_of q)) i (payload_in x) 0 d
      ∙ get_or-set_other q (kind_place (write_of q)) i (kind_in x) 0 b

  push_read : read_of (pushed q x) ≡ read_of q
  push_read = push_other read_at (λ e. omega arith) (λ e. omega arith) (λ e. omega arith)

  push_write : write_of (pushed q x) ≡ later (write_of q) 1
  unfolding pushed
  push_write = get_or-set_same valued write_at (later (write_of q) 1) 0 (simp length-set (omega (arith, f.words)))

  push_kind : get_or (pushed q x) (kind_place (write_of q)) 0 ≡ kind_in x
  unfolding pushed
  push_kind =
      get_or-set_other valued write_at (kind_place (write_of q)) (later (write_of q) 1) 0 (λ e. omega arith)
      ∙ get_or-set_other kinded (payload_place (write_of q)) (kind_place (write_of q)) (payload_in x) 0 (λ e. omega arith)
      ∙ get_or-set_same q (kind_place (write_of q)) (kind_in x) 0 (omega (arith, f.words))

  push_payload : get_or (pushed q x) (payload_place (write_of q)) 0 ≡ payload_in x
  unfolding pushed
  push_payload =
      get_or-set_other valued write_at (payload_place (write_of q)) (later (write_of q) 1) 0 (λ e. omega arith)
      ∙ get_or-set_same kinded (payload_place (write_of q)) (payload_in x) 0 (simp length-set (omega (arith, f.words)))

  pub push_counted : Counted (pushed q x)
  push_counted =
      record {
        words = push_length ∙ f.words;
        read = rw push_read f.read;
        write = rw push_write (omega arith);
      }

  push_count : (i : ℕ) → count_at (pushed q x) i ≡ count_at q i
  push_count i = ap (λ (r : ℕ). later r i) push_read

  module _ (room : stored_of q < slot_room) where
    -- one more is stored
    pub push_stored : stored_of (pushed q x) ≡ stored_of q + 1
    push_stored =
        let e = count_end q f in
        sym (stored_is (pushed q x) (stored_of q + 1) push_counted (omega arith) (rw (push_read, push_write) (omega arith)))

    -- the words of the values that were there are as before, those behind them are the new one's
    push_kind_old : (i : ℕ) → i < stored_of q → kind_word_at (pushed q x) i ≡ kind_word_at q i
    push_kind_old i l =
        rw (push_count i)
        (push_other (kind_place (count_at q i)) (λ e. omega arith) (λ e. apart q i f room l (omega arith)) (λ e. omega arith))

    push_payload_old : (i : ℕ) → i < stored_of q → payload_word_at (pushed q x) i ≡ payload_word_at q i
    push_payload_old i l =
        rw (push_count i)
        (push_other (payload_place (count_at q i)) (λ e. omega arith) (λ e. omega arith) (λ e. apart q i f room l (omega arith)))

    push_kind_new : kind_word_at (pushed q x) (stored_of q) ≡ kind_in x
    push_kind_new = rw (push_count (stored_of q), count_end q f) push_kind

    push_payload_new : payload_word_at (pushed q x) (stored_of q) ≡ payload_in x
    push_payload_new = rw (push_count (stored_of q), count_end q f) push_payload

    push_old : (i : ℕ) → i < stored_of q → get_or (queue_of (pushed q x)) i blank ≡ get_or (queue_of q) i blank
    push_old i l =
        queue_at (pushed q x) i (omega (arith, push_stored))
        ∙ rw (push_kind_old i l, push_payload_old i l) (sym (queue_at q i l))

    module _ (fit : FitVal x) where
      abbrev longer : List Slot
      longer = queue_of q ++ (record { value = x } ∷ [])

      push_new : get_or (queue_of (pushed q x)) (stored_of q) blank ≡ record { value = x }
      push_new =
          queue_at (pushed q x) (stored_of q) (omega (arith, push_stored))
          ∙ rw (push_kind_new, push_payload_new) (ap (λ (v : Val). record { value = v }) (val_back x fit))

      -- a push appends
      pub push_queue : queue_of (pushed q x) ≡ longer
      push_queue =
          let e = queue_length q in
          ext_get_or blank (queue_of (pushed q x)) longer
          (queue_length (pushed q x) ∙ push_stored ∙ sym (length-append (queue_of q) _ ∙ omega arith))
          (λ i l.
          one_more (λ (j : ℕ). get_or (queue_of (pushed q x)) j blank ≡ get_or longer j blank) (stored_of q)
          (λ j m. push_old j m ∙ sym (get_or-append (queue_of q) _ blank j (omega arith)))
          (push_new ∙ sym (get_or_at (queue_of q) (record { value = x }) [] blank (stored_of q) e)) i
          (omega (arith, queue_length (pushed q x), push_stored)))

      pub push_formed : QueueFormed q → QueueFormed (pushed q x)
      push_formed g =
          record {
            counted = push_counted;
            few = omega (arith, push_stored);
            kind = λ i l.
                one_more (λ (j : ℕ). kind_word_at (pushed q x) j ≡ kind_in (get_or (queue_of (pushed q x)) j blank).value) (stored_of q)
                (λ j m. rw (push_old j m) (push_kind_old j m ∙ g.kind j m)) (rw push_new push_kind_new) i (omega (arith, push_stored));
            payload = λ i l.
                one_more (λ (j : ℕ). payload_word_at (pushed q x) j ≡ payload_in (get_or (queue_of (pushed q x)) j blank).value) (stored_of q)
                (λ j m. rw (push_old j m) (push_payload_old j m ∙ g.payload j m)) (rw push_new push_payload_new) i
                (omega (arith, push_stored));
          }

-- ---- values received
module _ (q : List ℕ) (n : ℕ) (f : Counted q) where
  drop_other : (i : ℕ) → (i ≡ read_at → ⊥) → get_or (dropped q n) i 0 ≡ get_or q i 0
  unfolding dropped
  drop_other i h = get_or-set_other q read_at i (later (read_of q) n) 0 h

  drop_read : read_of (dropped q n) ≡ later (read_of q) n
  unfolding dropped
  drop_read = get_or-set_same q read_at (later (read_of q) n) 0 (omega (arith, f.words))

  drop_write : write_of (dropped q n) ≡ write_of q
  drop_write = drop_other write_at (λ e. omega arith)

  drop_length : length (dropped q n) ≡ length q
  unfolding dropped
  drop_length = simp length-set

  pub drop_counted : Counted (dropped q n)
  drop_counted = record { words = drop_length ∙ f.words; read = rw drop_read (omega arith); write = rw drop_write f.write }

  drop_count : (i : ℕ) → count_at (dropped q n) i ≡ count_at q (n + i)
  drop_count i = ap (λ (r : ℕ). later r i) drop_read ∙ omega arith

  module _ (h : n ≤ stored_of q) where
    pub drop_stored : stored_of (dropped q n) ≡ stored_of q - n
    drop_stored =
        let e = count_end q f in
        let s = stored_small q in
        sym (stored_is (dropped q n) (stored_of q - n) drop_counted (omega arith) (rw (drop_read, drop_write) (omega arith)))

    drop_kind : (i : ℕ) → kind_word_at (dropped q n) i ≡ kind_word_at q (n + i)
    drop_kind i = rw (drop_count i) (drop_other (kind_place (count_at q (n + i))) (λ e. omega arith))

    drop_payload : (i : ℕ) → payload_word_at (dropped q n) i ≡ payload_word_at q (n + i)
    drop_payload i = rw (drop_count i) (drop_other (payload_place (count_at q (n + i))) (λ e. omega arith))

    pub drop_at : (i : ℕ) → i < stored_of (dropped q n) → get_or (queue_of (dropped q n)) i blank ≡ get_or (queue_of q) (n + i) blank
    drop_at i l =
        queue_at (dropped q n) i l
        ∙ rw (drop_kind i, drop_payload i) (sym (queue_at q (n + i) (omega (arith, drop_stored))))

    -- what is received is gone from the front
    pub drop_queue : queue_of (dropped q n) ≡ drop n (queue_of q)
    drop_queue =
        ext_get_or blank (queue_of (dropped q n)) (drop n (queue_of q))
        (queue_length (dropped q n) ∙ drop_stored ∙ sym (length-drop n (queue_of q) ∙ ap (λ (k : ℕ). k - n) (queue_length q)))
        (λ i l. drop_at i (omega (arith, queue_length (dropped q n))) ∙ sym (get_or-drop n (queue_of q) i blank))

    pub drop_formed : QueueFormed q → QueueFormed (dropped q n)
    drop_formed g =
        record {
          counted = drop_counted;
          few = omega (arith, drop_stored, g.few);
          kind = λ i l. rw (drop_at i l) (drop_kind i ∙ g.kind (n + i) (omega (arith, drop_stored)));
          payload = λ i l. rw (drop_at i l) (drop_payload i ∙ g.payload (n + i) (omega (arith, drop_stored)));
        }

-- ---- a fresh queue
module _ (q : List ℕ) (f : QueueWords q) where
  fresh_read : read_of (emptied q) ≡ 0
  unfolding emptied
  fresh_read = get_or-set_other (set q read_at 0) write_at read_at 0 0 (λ e. omega arith) ∙ get_or-set_same q read_at 0 0 (omega arith)

  fresh_write : write_of (emptied q) ≡ 0
  unfolding emptied
  fresh_write = get_or-set_same (set q read_at 0) write_at 0 0 (simp length-set (omega arith))

  pub fresh_counted : Counted (emptied q)
  unfolding emptied
  fresh_counted =
      record { words = simp length-set f; read = rw fresh_read (omega arith); write = rw fresh_write (omega arith) }

  pub fresh_stored : stored_of (emptied q) ≡ 0
  fresh_stored = sym (stored_is (emptied q) 0 fresh_counted (omega arith) (rw (fresh_read, fresh_write)))

  -- nothing is in it
  pub fresh_queue : queue_of (emptied q) ≡ []
  unfolding queue_of list_of
  fresh_queue = ap (list_of _) fresh_stored

  pub fresh_formed : QueueFormed (emptied q)
  fresh_formed =
      record {
        counted = fresh_counted;
        few = omega (arith, fresh_stored);
        kind = λ i l. absurd (omega (arith, fresh_stored));
        payload = λ i l. absurd (omega (arith, fresh_stored));
      }
