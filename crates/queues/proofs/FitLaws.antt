-- Laws of the test of a queue: the facts that it finds are exactly those of a channel's queue, and sends and receives keep them.
use Rattle.std.proofs.Common.{◌≡◌, ℕ, zero, suc, ◌+◌, ◌-◌, ◌%◌, ◌<◌, ◌≤◌, true, List, ◌++◌, length, get_or, sym, refl, ap, ◌∙◌, mod-lt, mod-eq_of_lt, arith, get_or-append-add, ltb-true, lt-ltb, eq-eqb, eqb-true, le-leb, leb-true}
use native.Mathlib.Nat.{mod-zero, zero-mod, mod-add-mod, add-mod_left, mod-eq-sub-mod, mod_self}
use native.Mathlib.Decide.{dec_lt}
use lib.ListN.{get_or-append}
use Rattle.laws.proofs.BelowLaws.{and_first, and_rest, and_both, all_at, all_from}
use Rattle.grammar.specs.Evaluation.{blank}
use Rattle.grammar.specs.Slots.{kind_in, payload_in, is_value}
use Rattle.grammar.specs.declared.values.Slot.{Slot}
use Rattle.graph_tables.specs.declared.handed.Message.{Message}
use Rattle.queues.specs.Layout.{slot_room, QueueWords}
use Rattle.queues.specs.Queues.{stored_of, kind_word_at, payload_word_at, queue_of, Counted, QueueFormed}
use Rattle.queues.specs.Queues.{dropped, emptied, slots_for, values_of, pushed_all, first_of, FitMessage}
use Rattle.queues.specs.Fits.{whole_messages, kind_for, slot_fits, counts_fit, queue_fits, QueueKept, MessageKept}
use Rattle.queues.proofs.QueueLaws.{list_at, queue_length, queue_at, drop_stored, drop_at, drop_formed, fresh_stored, fresh_formed}
use Rattle.queues.proofs.MessageLaws.{slots_width, puts_stored, puts_formed, send_queue, first_at}

-- ---- whole messages
pub whole_true : (w n : ℕ) → whole_messages w n ≡ true → n % slots_for w ≡ 0
unfolding whole_messages
whole_true w n h = eqb-true _ _ h

true_whole : (w n : ℕ) → n % slots_for w ≡ 0 → whole_messages w n ≡ true
unfolding whole_messages
true_whole w n h = eq-eqb _ _ h

-- where anything is stored, messages have values
pub whole_wide : (w n : ℕ) → n % slots_for w ≡ 0 → 0 < n → 0 < w
whole_wide zero n h l = absurd (omega (arith, sym (mod-zero n) ∙ rw (slots_width 0) at h))
whole_wide (suc w) n h l = omega arith

-- the place of a value in its message is one of the kinds
pub kind_place_lem : (w s i : ℕ) → s ≡ slots_for w → 0 < w → i % s < w
kind_place_lem w s i e h =
    let a = slots_width w in
    let b : 0 < s = omega arith in
    omega (arith, mod-lt i b)

-- behind whole messages the values of the next one are counted anew
whole_more : (s n k : ℕ) → n % s ≡ 0 → (n + k) % s ≡ k % s
whole_more s n k h =
    let z : 0 + k ≡ k = omega arith in
    sym (mod-add-mod n s k) ∙ ap (λ (r : ℕ). (r + k) % s) h ∙ ap (λ (r : ℕ). r % s) z

-- what is whole and is not nothing has a whole message
pub one_whole : (s n : ℕ) → n % s ≡ 0 → 0 < n → s ≤ n
one_whole s n h l = by (dec_lt n s)
  where
    by : Dec (n < s) → s ≤ n
    by (yes m) = absurd (omega (arith, sym (mod-eq_of_lt m) ∙ h))
    by (no m) = omega arith

-- whole messages below a whole number of them leave room for one
pub room_for_one : (s n c : ℕ) → n % s ≡ 0 → c % s ≡ 0 → n < c → n + s ≤ c
room_for_one s n c h k l =
    let e : n + (c - n) ≡ c = omega arith in
    let r = one_whole s (c - n) (sym (whole_more s n (c - n) h) ∙ ap (λ (x : ℕ). x % s) e ∙ k) (omega arith) in
    omega arith

-- ---- what the test finds
pub fits_counted : (q : List ℕ) → QueueWords q → counts_fit q ≡ true → Counted q
unfolding counts_fit
fits_counted q w h = record { words = w; read = ltb-true _ _ (and_first _ _ h); write = ltb-true _ _ (and_rest _ _ h) }

counted_fits : (q : List ℕ) → Counted q → counts_fit q ≡ true
unfolding counts_fit
counted_fits q f = and_both (lt-ltb _ _ f.read) (lt-ltb _ _ f.write)

module _ (q kinds : List ℕ) (i : ℕ) (l : i < stored_of q) where
  value_kind_lem : is_value (kind_word_at q i) (payload_word_at q i) ≡ true → kind_word_at q i ≡ kind_in (get_or (queue_of q) i blank).value
  unfolding is_value
  value_kind_lem h = sym (eqb-true _ _ (and_first _ _ h)) ∙ ap (λ (s : Slot). kind_in s.value) (sym (queue_at q i l))

  value_payload : is_value (kind_word_at q i) (payload_word_at q i) ≡ true → payload_word_at q i ≡ payload_in (get_or (queue_of q) i blank).value
  unfolding is_value
  value_payload h = sym (eqb-true _ _ (and_rest _ _ h)) ∙ ap (λ (s : Slot). payload_in s.value) (sym (queue_at q i l))

  is_value_lem : kind_word_at q i ≡ kind_in (get_or (queue_of q) i blank).value → payload_word_at q i ≡ payload_in (get_or (queue_of q) i blank).value
      → is_value (kind_word_at q i) (payload_word_at q i) ≡ true
  unfolding is_value
  is_value_lem a b =
      and_both
      (eq-eqb _ _ (ap (λ (s : Slot). kind_in s.value) (sym (queue_at q i l)) ∙ sym a))
      (eq-eqb _ _ (ap (λ (s : Slot). payload_in s.value) (sym (queue_at q i l)) ∙ sym b))

  slot_value : slot_fits q kinds i ≡ true → is_value (kind_word_at q i) (payload_word_at q i) ≡ true
  unfolding slot_fits
  slot_value h = and_rest _ _ h

  slot_kind : slot_fits q kinds i ≡ true → kind_in (get_or (queue_of q) i blank).value ≡ kind_for kinds i
  unfolding slot_fits
  slot_kind h = sym (value_kind_lem (slot_value h)) ∙ eqb-true _ _ (and_first _ _ h)

  slot_fits_lem : QueueFormed q → kind_in (get_or (queue_of q) i blank).value ≡ kind_for kinds i → slot_fits q kinds i ≡ true
  unfolding slot_fits
  slot_fits_lem f e = and_both (eq-eqb _ _ (f.kind i l ∙ e)) (is_value_lem (f.kind i l) (f.payload i l))

module _ (q kinds : List ℕ) (ceiling : ℕ) where
  -- the facts, from the test
  pub fits_kept : QueueWords q → ceiling ≤ slot_room → queue_fits q kinds ceiling ≡ true → QueueKept q kinds ceiling
  unfolding queue_fits
  fits_kept w room h =
      let low : stored_of q ≤ ceiling = leb-true _ _ (and_first _ _ (and_rest _ _ h)) in
      let rest = and_rest _ _ (and_rest _ _ h) in
      let at : (i : ℕ) → i < stored_of q → slot_fits q kinds i ≡ true = λ i l. all_at _ (stored_of q) i (and_rest _ _ rest) l in
      record {
        formed = record {
          counted = fits_counted q w (and_first _ _ h);
          few = omega arith;
          kind = λ i l. value_kind_lem q kinds i l (slot_value q kinds i l (at i l));
          payload = λ i l. value_payload q kinds i l (slot_value q kinds i l (at i l));
        };
        low = low;
        whole = whole_true (length kinds) (stored_of q) (and_first _ _ rest);
        kind = λ i l. slot_kind q kinds i l (at i l);
      }

  -- and the test, from the facts
  pub kept_fits : QueueKept q kinds ceiling → queue_fits q kinds ceiling ≡ true
  unfolding queue_fits
  kept_fits f =
      and_both (counted_fits q f.formed.counted)
      (and_both (le-leb _ _ f.low)
      (and_both (true_whole (length kinds) (stored_of q) f.whole)
      (all_from (slot_fits q kinds) (stored_of q) (λ i l. slot_fits_lem q kinds i l f.formed (f.kind i l)))))

-- ---- what keeps them
module _ (kinds : List ℕ) (ceiling : ℕ) where
  -- a fresh queue
  pub fresh_kept : (q : List ℕ) → QueueWords q → QueueKept (emptied q) kinds ceiling
  fresh_kept q w =
      record {
        formed = fresh_formed q w;
        low = omega (arith, fresh_stored q w);
        whole = rw (fresh_stored q w) (zero-mod (slots_for (length kinds)));
        kind = λ i l. absurd (omega (arith, fresh_stored q w));
      }

  module _ (q : List ℕ) (f : QueueKept q kinds ceiling) where
    -- where anything is stored, there is a message
    pub one_message : (stored_of q ≡ 0 → ⊥) → slots_for (length kinds) ≤ stored_of q
    one_message h = one_whole (slots_for (length kinds)) (stored_of q) f.whole (omega arith)

    -- a message received
    pub drop_kept : slots_for (length kinds) ≤ stored_of q → QueueKept (dropped q (slots_for (length kinds))) kinds ceiling
    drop_kept h =
        let c = f.formed.counted in
        let s = slots_for (length kinds) in
        let e = drop_stored q s c h in
        record {
          formed = drop_formed q s c h f.formed;
          low = omega (arith, f.low);
          whole = rw e (sym (mod-eq-sub-mod h) ∙ f.whole);
          kind = λ i l.
              rw (drop_at q s c h i l) (f.kind (s + i) (omega arith) ∙ ap (λ (k : ℕ). get_or kinds k 0) (add-mod_left s i));
        }

    -- the message that is received
    pub first_kept : slots_for (length kinds) ≤ stored_of q → MessageKept kinds (first_of q (length kinds))
    first_kept h =
        record {
          count = refl;
          kind = λ k l.
              rw (first_at q (length kinds) h k l) (f.kind k (omega arith) ∙ ap (λ (r : ℕ). get_or kinds r 0) (mod-eq_of_lt l));
        }

    -- a message sent
    module _ (m : Message) (g : MessageKept kinds m) (fit : FitMessage m) (room : ceiling ≤ slot_room)
        (h : stored_of q + slots_for (length kinds) ≤ ceiling) where
      abbrev size : ℕ
      size = slots_for m.count

      same : size ≡ slots_for (length kinds)
      same = ap slots_for g.count

      fits_in : stored_of q + size ≤ slot_room
      fits_in = omega (arith, same)

      send_stored : stored_of (pushed_all q m) ≡ stored_of q + size
      send_stored = puts_stored q m.values f.formed.counted size fits_in

      send_list : queue_of (pushed_all q m) ≡ queue_of q ++ values_of m
      send_list = send_queue q m f.formed.counted fits_in fit

      -- value k of the message
      send_new : (k : ℕ) → k < size → get_or (queue_of (pushed_all q m)) (stored_of q + k) blank ≡ get_or m.values k blank
      send_new k l =
          rw (send_list, ← (queue_length q)) (get_or-append-add (queue_of q) (values_of m) k blank ∙ list_at _ size k l)

      send_kind_new : (k : ℕ) → k < size
          → kind_in (get_or (queue_of (pushed_all q m)) (stored_of q + k) blank).value ≡ kind_for kinds (stored_of q + k)
      send_kind_new k l =
          ap (λ (s : Slot). kind_in s.value) (send_new k l)
          ∙ g.kind k l
          ∙ ap (λ (r : ℕ). get_or kinds r 0) (sym (mod-eq_of_lt (omega (arith, same))))
          ∙ ap (λ (r : ℕ). get_or kinds r 0) (sym (whole_more (slots_for (length kinds)) (stored_of q) k f.whole))

      send_kind_lem : (i : ℕ) → i < stored_of q + size → Dec (i < stored_of q)
          → kind_in (get_or (queue_of (pushed_all q m)) i blank).value ≡ kind_for kinds i
      send_kind_lem i l (yes o) =
          rw (send_list, get_or-append (queue_of q) (values_of m) blank i (omega (arith, queue_length q))) (f.kind i o)
      send_kind_lem i l (no o) =
          let e : stored_of q + (i - stored_of q) ≡ i = omega arith in
          rw e at (send_kind_new (i - stored_of q) (omega arith))

      pub send_kept : QueueKept (pushed_all q m) kinds ceiling
      send_kept =
          record {
            formed = puts_formed q m.values f.formed.counted size fits_in fit f.formed;
            low = omega (arith, send_stored, same);
            whole = let s = slots_for (length kinds) in rw (send_stored, same) (whole_more s (stored_of q) s f.whole ∙ mod_self s);
            kind = λ i l. send_kind_lem i (omega (arith, send_stored)) (dec_lt i (stored_of q));
          }
