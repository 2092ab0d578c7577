-- The queue of a channel, by the channel's width: what sends and receives keep; and a message of an action is one of its channel.
use Prim.Native.Nat.{ℕ, ◌+◌, ◌<◌, ◌≤◌}
use mathlib.Core.Path.{◌≡◌, sym, ap, subst, ◌∙◌}
use mathlib.Core.List.{List}
use native.Mathlib.Omega.{arith}
use lib.ListN.{length, get_or, drop, length-drop}
use lib.Seq.{length-take-le, get_or-take, get_or-drop}
use Rattle.graph_tables.specs.declared.handed.Message.{Message}
use Rattle.program_graph.proofs.SpokenLaws.{MessageOf, Says}
use Rattle.queues.specs.Queues.{stored_of, slots_for, dropped, pushed_all, first_of, FitMessage}
use Rattle.queues.specs.Fits.{QueueKept, MessageKept}
use Rattle.queues.proofs.MessageLaws.{slots_width}
use Rattle.queues.proofs.FitLaws as queues
use Rattle.system_tables.specs.Layout.{channel_kind_cell}
use Rattle.system_tables.specs.Words.{channel_count, width_of, channel_kind, channel_kinds}
use Rattle.system_tables.specs.Sound.{SystemSound, MessageSound}
use Rattle.system_state.specs.Words.{queue_part}
use Rattle.system_state.specs.Fits.{ceiling_at, StateSound}

module _ {t : List ℕ} (sound : SystemSound t) (q : ℕ) (known : q < channel_count t) where
  abbrev kinds : List ℕ
  kinds = channel_kinds t q

  -- a channel has a kind for each value of a message
  pub kinds_length : length (channel_kinds t q) ≡ width_of t q
  kinds_length =
      let few = sound.channels in
      let narrow = (sound.channel q known).width in
      length-take-le (width_of t q) (drop (channel_kind_cell q 0) t) (rw (length-drop (channel_kind_cell q 0) t, sound.words) (omega arith))

  pub kinds_at : (e : ℕ) → e < width_of t q → get_or (channel_kinds t q) e 0 ≡ channel_kind t q e
  kinds_at e l =
      let place : channel_kind_cell q 0 + e ≡ channel_kind_cell q e = omega arith in
      get_or-take (width_of t q) (drop (channel_kind_cell q 0) t) e 0 l
      ∙ get_or-drop (channel_kind_cell q 0) t e 0
      ∙ ap (λ (i : ℕ). get_or t i 0) place

  -- ---- messages
  module _ {G : List ℕ} {a : ℕ} (same : MessageSound t q G a) {m : Message} where
    -- what an action says is a message of the channel
    pub said_kept : MessageOf G a m → MessageKept (channel_kinds t q) m
    said_kept f =
        let wide = f.count ∙ same.count in
        record {
          count = wide ∙ sym kinds_length;
          kind = λ k l.
              let few : k < width_of t q = omega (arith, slots_width m.count) in
              f.kind k (omega (arith, same.count)) ∙ same.kind k few ∙ sym (kinds_at k few);
        }

    -- and what is of the channel, the action takes
    pub kept_said : MessageKept (channel_kinds t q) m → MessageOf G a m
    kept_said f =
        let wide = f.count ∙ kinds_length in
        record {
          count = wide ∙ sym same.count;
          kind = λ e l.
              let few : e < width_of t q = omega (arith, same.count) in
              f.kind e (omega (arith, slots_width m.count)) ∙ kinds_at e few ∙ sym (same.kind e few);
        }

    pub said_fits : Says G a m → FitMessage m
    said_fits f k l = f.fits k

  -- ---- the queue
  module _ {s : List ℕ} (h : StateSound t s) where
    abbrev queue : List ℕ
    queue = queue_part s q

    abbrev slots : ℕ
    slots = slots_for (width_of t q)

    same_slots : slots_for (length kinds) ≡ slots
    same_slots = ap slots_for kinds_length

    -- a message sent
    pub push_kept : (m : Message) → MessageKept (channel_kinds t q) m → FitMessage m
        → stored_of (queue_part s q) + slots_for (width_of t q) ≤ ceiling_at t q
        → QueueKept (pushed_all (queue_part s q) m) (channel_kinds t q) (ceiling_at t q)
    push_kept m f fit room =
        queues.send_kept kinds (ceiling_at t q) queue (h.queue q known) m f fit (sound.channel q known).room (omega (arith, same_slots))

    -- a message received, and the message
    pub pop_kept : slots_for (width_of t q) ≤ stored_of (queue_part s q)
        → QueueKept (dropped (queue_part s q) (slots_for (width_of t q))) (channel_kinds t q) (ceiling_at t q)
    pop_kept few =
        subst (λ (n : ℕ). QueueKept (dropped queue n) kinds (ceiling_at t q)) same_slots
        (queues.drop_kept kinds (ceiling_at t q) queue (h.queue q known) (omega (arith, same_slots)))

    pub first_kept : slots_for (width_of t q) ≤ stored_of (queue_part s q)
        → MessageKept (channel_kinds t q) (first_of (queue_part s q) (width_of t q))
    first_kept few =
        subst (λ (n : ℕ). MessageKept kinds (first_of queue n)) kinds_length
        (queues.first_kept kinds (ceiling_at t q) queue (h.queue q known) (omega (arith, same_slots)))

    -- where anything is stored, there is a message
    pub one_message : (stored_of (queue_part s q) ≡ 0 → ⊥) → slots_for (width_of t q) ≤ stored_of (queue_part s q)
    one_message some =
        subst (λ (n : ℕ). n ≤ stored_of queue) same_slots (queues.one_message kinds (ceiling_at t q) queue (h.queue q known) some)
