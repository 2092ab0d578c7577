-- Laws of messages: one that is sent stands behind the queue, in order; one that is received is what stood at its front.
use Rattle.std.proofs.Common.{◌≡◌, ℕ, zero, suc, ◌+◌, ◌-◌, ◌<◌, ◌≤◌, List, [], ◌∷◌, ◌++◌, length, get_or, take, drop, sym, refl, ap, ◌∙◌, append_assoc, append-nil, arith, take-append-drop, length-take-le, get_or-take, ext_get_or}
use Rattle.std.proofs.Common.{cond, nat_lt, length-append, Bool, true, false}
use borrow.Author.Tests.{ltb-true, ltb-false}
use lib.ListN.{get_or-append}
use lib.Seq.{get_or-append_right}
use Rattle.std.proofs.lemmas.List.{get_or-replicate, length-replicate}
use Rattle.grammar.specs.declared.values.Val.TheVariants.{Boolean}
use Rattle.grammar.specs.Evaluation.{blank}
use Rattle.grammar.specs.declared.values.Slot.{Slot}
use Rattle.graph_tables.specs.Sizes.{message_room}
use Rattle.graph_tables.specs.declared.handed.Message.{Message}
use Rattle.queues.specs.Layout.{slot_room}
use Rattle.queues.specs.Queues.{stored_of, list_of, queue_of, Counted, QueueFormed, dropped}
use Rattle.queues.specs.Queues.{slots_for, values_of, pushed_below, pushed_all, filled_with, first_of, FitBelow, FitMessage}
use Rattle.queues.proofs.QueueLaws.{list_length, list_at, queue_length, drop_queue}
use Rattle.queues.proofs.QueueLaws.{push_counted, push_stored, push_queue, push_formed}

-- ---- slots
-- a message takes as many slots as it is wide
pub slots_width : (w : ℕ) → slots_for w ≡ w
unfolding slots_for
slots_width w = refl

-- one that a message has room for takes no more slots than that
pub slots_few : (w : ℕ) → w ≤ message_room → slots_for w ≤ message_room
slots_few w h = omega (arith, slots_width w)

-- ---- values written one by one
module _ (q : List ℕ) (values : List Slot) (f : Counted q) where
  pub puts_counted : (n : ℕ) → Counted (pushed_below q values n)
  unfolding pushed_below
  puts_counted zero = f
  puts_counted (suc n) = push_counted (pushed_below q values n) _ (puts_counted n)

  pub puts_stored : (n : ℕ) → stored_of q + n ≤ slot_room → stored_of (pushed_below q values n) ≡ stored_of q + n
  unfolding pushed_below
  puts_stored zero h = omega arith
  puts_stored (suc n) h =
      let e = puts_stored n (omega arith) in
      push_stored (pushed_below q values n) _ (puts_counted n) (omega arith) ∙ omega arith

  -- they stand behind the queue
  pub puts_queue : (n : ℕ) → stored_of q + n ≤ slot_room → FitBelow values n
      → queue_of (pushed_below q values n) ≡ queue_of q ++ list_of (λ k. get_or values k blank) n
  unfolding pushed_below list_of
  puts_queue zero h fit = sym (append-nil (queue_of q))
  puts_queue (suc n) h fit =
      push_queue (pushed_below q values n) _ (puts_counted n) (omega (arith, puts_stored n (omega arith))) (fit n (omega arith))
      ∙ ap (λ (l : List Slot). l ++ (get_or values n blank ∷ [])) (puts_queue n (omega arith) (λ k l. fit k (omega arith)))
      ∙ append_assoc (queue_of q) _ _

  pub puts_formed : (n : ℕ) → stored_of q + n ≤ slot_room → FitBelow values n → QueueFormed q → QueueFormed (pushed_below q values n)
  unfolding pushed_below
  puts_formed zero h fit g = g
  puts_formed (suc n) h fit g =
      push_formed (pushed_below q values n) _ (puts_counted n) (omega (arith, puts_stored n (omega arith))) (fit n (omega arith))
      (puts_formed n (omega arith) (λ k l. fit k (omega arith)) g)

-- ---- values read
-- the values that are read, and blanks behind them
abbrev pub value_or_blank : List Slot → ℕ → ℕ → Slot
value_or_blank values n k = record { value = cond (nat_lt k n) (get_or values k blank).value (Boolean false) }

module _ (values : List Slot) (n : ℕ) (few : n ≤ length values) where
  filled_at : (k : ℕ) → k < message_room → value_or_blank values n k ≡ get_or (filled_with values n) k blank
  filled_at k l = by (nat_lt k n) refl
    where
      long : length (take n values) ≡ n
      long = length-take-le n values few

      by : (t : Bool) → nat_lt k n ≡ t → value_or_blank values n k ≡ get_or (filled_with values n) k blank
      by true e =
          let m = ltb-true k n e in
          rw e (sym (get_or-append (take n values) _ blank k (omega (arith, long)) ∙ get_or-take n values k blank m))
      by false e =
          let m : n ≤ k = omega (arith, ltb-false k n e) in
          rw e
          (sym
          (get_or-append_right (take n values) _ k blank (omega (arith, long))
          ∙ get_or-replicate (message_room - n) (k - length (take n values)) blank blank (omega (arith, long))))

  pub filled_from : (ys : List Slot) → length ys ≡ message_room → n ≤ message_room
      → ((k : ℕ) (d : Slot) → k < message_room → get_or ys k d ≡ value_or_blank values n k) → ys ≡ filled_with values n
  filled_from ys e room h =
      let long : length (filled_with values n) ≡ message_room = simp (length-append, length-replicate, length-take-le) (omega arith) in
      ext_get_or blank ys (filled_with values n) (e ∙ sym long) (λ k l. h k blank (omega arith) ∙ filled_at k (omega arith))

module _ (q : List ℕ) (w : ℕ) (h : slots_for w ≤ stored_of q) where
  long : length (take (slots_for w) (queue_of q)) ≡ slots_for w
  long = length-take-le (slots_for w) (queue_of q) (omega (arith, queue_length q))

  pub first_at : (k : ℕ) → k < slots_for w → get_or (first_of q w).values k blank ≡ get_or (queue_of q) k blank
  first_at k l =
      get_or-append (take (slots_for w) (queue_of q)) _ blank k (omega (arith, long))
      ∙ get_or-take (slots_for w) (queue_of q) k blank l

  -- the values of the message that is read are the oldest of the queue
  pub first_values : values_of (first_of q w) ≡ take (slots_for w) (queue_of q)
  first_values =
      ext_get_or blank (values_of (first_of q w)) (take (slots_for w) (queue_of q))
      (list_length _ (slots_for w) ∙ sym long)
      (λ k l.
      let m : k < slots_for w = omega (arith, list_length (λ k. get_or (first_of q w).values k blank) (slots_for w)) in
      list_at _ (slots_for w) k m ∙ first_at k m ∙ sym (get_or-take (slots_for w) (queue_of q) k blank m))

-- ---- what a send and a receive make of a queue
-- a message that is sent: its values, in order, behind those of the queue
pub send_queue : (q : List ℕ) (m : Message) → Counted q → stored_of q + slots_for m.count ≤ slot_room → FitMessage m
    → queue_of (pushed_all q m) ≡ queue_of q ++ values_of m
send_queue q m f h fit = puts_queue q m.values f (slots_for m.count) h fit

-- a message that is received: its values, in order, followed by the queue that is left, are the queue that was
pub receive_queue : (q : List ℕ) (w : ℕ) → Counted q → slots_for w ≤ stored_of q
    → queue_of q ≡ values_of (first_of q w) ++ queue_of (dropped q (slots_for w))
receive_queue q w f h =
    sym (take-append-drop (slots_for w) (queue_of q))
    ∙ ap (λ (l : List Slot). l ++ drop (slots_for w) (queue_of q)) (sym (first_values q w h))
    ∙ ap (λ (l : List Slot). values_of (first_of q w) ++ l) (sym (drop_queue q (slots_for w) f h))
