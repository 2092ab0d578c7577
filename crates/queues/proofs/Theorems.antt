-- What a layer that sends and receives relies on: a queue is a list, and one of its channel it stays.
use Rattle.std.proofs.Common.{◌≡◌, ℕ, ◌+◌, ◌≤◌, true, List, [], ◌++◌, length, sym, ap, ◌∙◌, append_assoc, arith}
use Rattle.grammar.specs.declared.values.Slot.{Slot}
use Rattle.graph_tables.specs.declared.handed.Message.{Message}
use Rattle.queues.specs.Layout.{slot_room, QueueWords}
use Rattle.queues.specs.Queues.{stored_of, list_of, queue_of, Counted, dropped, emptied}
use Rattle.queues.specs.Queues.{slots_for, values_of, pushed_all, first_of, FitMessage}
use Rattle.queues.specs.Fits.{queue_fits, QueueKept, MessageKept}
use Rattle.queues.proofs.QueueLaws.{queue_length, fresh_queue}
use Rattle.queues.proofs.MessageLaws.{send_queue, receive_queue}
use Rattle.queues.proofs.FitLaws.{fits_kept, kept_fits, fresh_kept, drop_kept, send_kept}

-- nothing is stored exactly when the list is empty
pub none_stored : (q : List ℕ) → stored_of q ≡ 0 → queue_of q ≡ []
unfolding queue_of list_of
none_stored q h = ap (list_of _) h

pub some_stored : (q : List ℕ) → queue_of q ≡ [] → stored_of q ≡ 0
some_stored q h = sym (queue_length q) ∙ ap length h

-- the queue of a sink is empty
pub sink_empty : (q kinds : List ℕ) → QueueKept q kinds 0 → queue_of q ≡ []
sink_empty q kinds f = none_stored q (omega (arith, f.low))

-- ---- what was sent is what was received followed by the queue: at the start, and after each send and each receive
module _ (q : List ℕ) (sent received : List Slot) where
  pub fresh_history : QueueWords q → [] ≡ [] ++ queue_of (emptied q)
  fresh_history w = sym (fresh_queue q w)

  pub send_history : (m : Message) → Counted q → stored_of q + slots_for m.count ≤ slot_room → FitMessage m
      → sent ≡ received ++ queue_of q → sent ++ values_of m ≡ received ++ queue_of (pushed_all q m)
  send_history m f room fit h =
      ap (λ (l : List Slot). l ++ values_of m) h
      ∙ append_assoc received (queue_of q) (values_of m)
      ∙ ap (λ (l : List Slot). received ++ l) (sym (send_queue q m f room fit))

  pub receive_history : (w : ℕ) → Counted q → slots_for w ≤ stored_of q
      → sent ≡ received ++ queue_of q → sent ≡ (received ++ values_of (first_of q w)) ++ queue_of (dropped q (slots_for w))
  receive_history w f few h =
      h
      ∙ ap (λ (l : List Slot). received ++ l) (receive_queue q w f few)
      ∙ sym (append_assoc received (values_of (first_of q w)) (queue_of (dropped q (slots_for w))))

-- ---- the test holds of a fresh queue, and still holds after each send of a message that fits and each receive
module _ (kinds : List ℕ) (ceiling : ℕ) (room : ceiling ≤ slot_room) (q : List ℕ) (words : QueueWords q) where
  pub fresh_fits : queue_fits (emptied q) kinds ceiling ≡ true
  fresh_fits = kept_fits (emptied q) kinds ceiling (fresh_kept kinds ceiling q words)

  module _ (fits : queue_fits q kinds ceiling ≡ true) where
    pub send_fits_lem : (m : Message) → MessageKept kinds m → FitMessage m → stored_of q + slots_for (length kinds) ≤ ceiling
        → queue_fits (pushed_all q m) kinds ceiling ≡ true
    send_fits_lem m g fit h =
        kept_fits (pushed_all q m) kinds ceiling (send_kept kinds ceiling q (fits_kept q kinds ceiling words room fits) m g fit room h)

    pub receive_fits_lem : slots_for (length kinds) ≤ stored_of q → queue_fits (dropped q (slots_for (length kinds))) kinds ceiling ≡ true
    receive_fits_lem h =
        let s = slots_for (length kinds) in
        kept_fits (dropped q s) kinds ceiling (drop_kept kinds ceiling q (fits_kept q kinds ceiling words room fits) h)
