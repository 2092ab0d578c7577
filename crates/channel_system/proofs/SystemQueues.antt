-- From a fresh state, after any calls: what was sent into a channel, in order, is what was received from it, in order, followed by its
-- queue; and the queue is in whole messages of the channel's kinds, within its ceiling.
use Prim.Native.Nat.{ℕ, ◌+◌, ◌%◌, ◌<◌, ◌≤◌}
use mathlib.Core.Path.{◌≡◌, refl, sym, ap, subst, ◌∙◌}
use mathlib.Core.Bool.{Bool, true, false, cond}
use mathlib.Core.List.{List, [], ◌∷◌, ◌++◌, append_assoc, append-nil}
use native.Mathlib.Decide.{ℕ_discrete}
use native.Mathlib.Omega.{arith}
use lib.Dec.{eqb}
use lib.ListN.{get_or}
use borrow.Author.Tests.{eq-eqb, ne_eqb}
use Rattle.laws.specs.Below.{◌and◌}
use Rattle.laws.proofs.BelowLaws.{and_both, and_no, and_false}
use Rattle.grammar.specs.declared.values.Slot.{Slot}
use Rattle.graph_tables.specs.declared.handed.Message as Values
use Rattle.run_steps.specs.Messages.{no_message}
use Rattle.queues.specs.Layout.{slot_room}
use Rattle.queues.specs.Queues.{stored_of, queue_of, Counted, slots_for, values_of}
use Rattle.queues.specs.Fits.{QueueKept}
use Rattle.queues.proofs.QueueLaws.{queue_length}
use Rattle.queues.proofs.MessageLaws as messages
use Rattle.queues.proofs.FitLaws.{whole_wide, kind_place_lem}
use Rattle.queues.proofs.Theorems.{sink_empty}
use Rattle.system_tables.specs.Sizes.{channel_room}
use Rattle.system_tables.specs.declared.ids.ChannelCapacity.{ChannelCapacity}
use Rattle.system_tables.specs.declared.ids.ChannelCapacity.TheVariants.{Bounded, Unbounded, Sink}
use Rattle.system_tables.specs.declared.ids.Message.{Message}
use Rattle.system_tables.specs.declared.ids.Message.TheVariants.{Send, Receive}
use Rattle.system_tables.specs.declared.ids.Communication.TheVariants.{On}
use Rattle.system_tables.specs.Words.{channel_count, width_of, channel_kinds, capacity_of, message_word}
use Rattle.system_tables.specs.Ceiling.{ceiling}
use Rattle.system_tables.specs.Sound.{SystemSound}
use Rattle.system_tables.specs.Formed.{system_formed}
use Rattle.system_tables.proofs.CeilingLaws.{sink_ceiling}
use Rattle.system_state.specs.Words.{StateWords, queue_part}
use Rattle.system_state.specs.Fits.{ceiling_at, StateSound}
use Rattle.system_state.specs.Fresh.{fresh_state}
use Rattle.system_state.proofs.FreshParts.{fresh_state_empty}
use Rattle.system_state.proofs.ChannelLaws.{kinds_length, kinds_at}
use Rattle.channel_system.specs.Steps.{ran_to, stores, sent_into, oldest_in, taken_from, Moved}
use Rattle.channel_system.specs.Told.{QueueInShape}
use Rattle.channel_system.specs.Chains.{Call, transition, wait, read, state_after, state_after_all, values_on, values_by, sent_over}
use Rattle.channel_system.specs.Chains.{received_over}
use Rattle.channel_system.proofs.StepCases.{stepped_on, sent_on, received_on, SendFound, ReceiveFound, step_cases}
use Rattle.channel_system.proofs.SoundCalls.{plain_queues, probe_queues, send_fits_lem, send_wide, send_room_lem, send_queue, sink_queues}
use Rattle.channel_system.proofs.SoundCalls.{receive_some, receive_queue}
use Rattle.channel_system.proofs.CallTheorems.{wait_queues}
use Rattle.channel_system.proofs.SystemChains.{formed_sound, step_inner, call_sound, chain_state, fresh_is_sound}

-- ---- the values of an event
-- it is of this kind on this channel
on_same : (m : Message) (q : ℕ) (values : List Slot) → values_on m q (On m (record { 0 = q })) values ≡ values
on_same m q values = ap (λ (b : Bool). cond b values []) (and_both (eq-eqb (message_word m) _ refl) (eq-eqb q q refl))

-- it is of another kind, or on another channel
on_other_kind : (m n : Message) (q p : ℕ) (values : List Slot) → (message_word n ≡ message_word m → ⊥)
    → values_on m q (On n (record { 0 = p })) values ≡ []
on_other_kind m n q p values other = ap (λ (b : Bool). cond b values []) (sym (and_no (eqb p q) (ne_eqb _ _ other)))

on_other_channel : (m n : Message) (q p : ℕ) (values : List Slot) → (p ≡ q → ⊥) → values_on m q (On n (record { 0 = p })) values ≡ []
on_other_channel m n q p values other =
    ap (λ (b : Bool). cond (eqb (message_word n) (message_word m) and b) values []) (ne_eqb p q other)
    ∙ ap (λ (b : Bool). cond b values []) (and_false (eqb (message_word n) (message_word m)))

-- a channel that is no sink stores
pub no_sink : (c : ChannelCapacity) → (c ≡ Sink → ⊥) → stores c ≡ true
no_sink (Bounded n) h = refl
no_sink Unbounded h = refl
no_sink Sink h = absurd (h refl)

-- ---- one call: the queue before, followed by what the call sent, is what it received, followed by the queue after
module _ (t : List ℕ) (formed : system_formed t false ≡ true) (s : List ℕ) (h : StateSound t s) where
  abbrev sound : SystemSound t
  sound = formed_sound t formed

  abbrev listed : List ℕ → ℕ → List Slot
  listed u q = queue_of (queue_part u q)

  counted : (q : ℕ) → q < channel_count t → Counted (queue_part s q)
  counted q k = (h.queue q k).formed.counted

  in_room : (q : ℕ) → q < channel_count t → q < channel_room
  in_room q k = omega (arith, sound.channels)

  -- nothing was sent or received, and the queue is as it was
  nothing : (q : ℕ) (u : List ℕ) {sent received : List Slot} → queue_part u q ≡ queue_part s q → sent ≡ [] → received ≡ []
      → listed s q ++ sent ≡ received ++ listed u q
  nothing q u {sent} {received} same e f =
      ap (λ (x : List Slot). listed s q ++ x) e
      ∙ append-nil (listed s q)
      ∙ ap queue_of (sym same)
      ∙ ap (λ (x : List Slot). x ++ listed u q) (sym f)

  module _ (g a : ℕ) (posts : List ℕ) (word : ℕ) where
    -- a send
    module _ (p : ℕ) (f : SendFound t s g a posts word p) where
      abbrev said : Values.Message
      said = (sent_on t s g a posts word).message

      abbrev sent_to : List ℕ
      sent_to = sent_into t (ran_to t s g (sent_on t s g a posts word).run) p said

      abbrev Sends : ℕ → Type 0
      Sends q =
          listed s q ++ values_on Send q (On Send (record { 0 = p })) (values_of said)
          ≡ values_on Receive q (On Send (record { 0 = p })) (values_of said) ++ listed sent_to q

      send_here : stores (capacity_of t p) ≡ true → Sends p
      send_here y =
          let channel = f.found.channel in
          let room = send_room_lem sound h g a posts word p f y in
          let fits : stored_of (queue_part s p) + slots_for said.count ≤ slot_room =
          omega (arith, (sound.channel p channel).room, ap slots_for (send_wide sound h g a posts word p f)) in
          ap (λ (x : List Slot). listed s p ++ x) (on_same Send p (values_of said))
          ∙ sym (messages.send_queue (queue_part s p) said (counted p channel) fits (send_fits_lem sound h g a posts word p f))
          ∙ ap queue_of (sym (send_queue sound h g a posts word p f y).here)
          ∙ ap (λ (x : List Slot). x ++ listed sent_to p) (sym (on_other_kind Receive Send p p (values_of said) (λ e. omega arith)))

      send_there : (q : ℕ) → q < channel_room → (p ≡ q → ⊥) → queue_part sent_to q ≡ queue_part s q
      send_there q l other = by (stores (capacity_of t p)) refl
        where
          by : (b : Bool) → stores (capacity_of t p) ≡ b → queue_part sent_to q ≡ queue_part s q
          by true y = (send_queue sound h g a posts word p f y).other q l (λ e. other (sym e))
          by false n = sink_queues sound h g a posts word p f n q l

      sends : (q : ℕ) → q < channel_room → stores (capacity_of t q) ≡ true → Dec (p ≡ q) → Sends q
      sends q l y (yes e) = subst (λ (k : ℕ). stores (capacity_of t k) ≡ true → Sends k) e send_here y
      sends q l y (no other) =
          nothing q sent_to (send_there q l other) (on_other_channel Send Send q p (values_of said) other)
          (on_other_channel Receive Send q p (values_of said) other)

    -- a receive
    module _ (p : ℕ) (f : ReceiveFound t s g a posts word p) where
      abbrev oldest : Values.Message
      oldest = oldest_in t s p

      abbrev taken : List ℕ
      taken = taken_from t (ran_to t s g (received_on t s g a posts word p).run) p

      abbrev Receives : ℕ → Type 0
      Receives q =
          listed s q ++ values_on Send q (On Receive (record { 0 = p })) (values_of oldest)
          ≡ values_on Receive q (On Receive (record { 0 = p })) (values_of oldest) ++ listed taken q

      receive_here : Receives p
      receive_here =
          let channel = f.found.channel in
          ap (λ (x : List Slot). listed s p ++ x) (on_other_kind Send Receive p p (values_of oldest) (λ e. omega arith))
          ∙ append-nil (listed s p)
          ∙ messages.receive_queue (queue_part s p) (width_of t p) (counted p channel) (receive_some sound h g a posts word p f)
          ∙ ap (λ (r : List ℕ). values_of oldest ++ queue_of r) (sym (receive_queue sound h g a posts word p f).here)
          ∙ ap (λ (x : List Slot). x ++ listed taken p) (sym (on_same Receive p (values_of oldest)))

      receives : (q : ℕ) → q < channel_room → Dec (p ≡ q) → Receives q
      receives q l (yes e) = subst Receives e receive_here
      receives q l (no other) =
          nothing q taken ((receive_queue sound h g a posts word p f).other q l (λ e. other (sym e)))
          (on_other_channel Send Receive q p (values_of oldest) other) (on_other_channel Receive Receive q p (values_of oldest) other)

  -- The queue before a call, followed by what the call sends, is what it receives, followed by the queue after it.
  pub one_call : (q : ℕ) → q < channel_count t → stores (capacity_of t q) ≡ true → (call : Call)
      → queue_of (queue_part s q) ++ values_by Send q t s call
      ≡ values_by Receive q t s call ++ queue_of (queue_part (state_after t s call) q)
  one_call q k y (transition g o a posts word) =
      let l = in_room q k in
      let P : Moved → Type 0 =
      λ m. listed s q ++ values_on Send q m.told.event.on (values_of m.told.event.values)
      ≡ values_on Receive q m.told.event.on (values_of m.told.event.values) ++ listed m.state q in
      subst P (sym (step_inner t formed s h g o a posts word))
      (step_cases t s g a posts word P
      (record {
        refusal = λ r n. nothing q s refl refl refl;
        plain = λ f. nothing q (ran_to t s g (stepped_on t s g a posts word).run) (plain_queues sound h g a posts word f q l) refl refl;
        send = λ p f. sends g a posts word p f q l y (ℕ_discrete p q);
        receive = λ p f. receives g a posts word p f q l (ℕ_discrete p q);
        probe = λ m p f. nothing q (ran_to t s g (sent_on t s g a posts word).run) (probe_queues sound h g a posts word m p f q l)
            (on_other_kind Send m q p (values_of no_message) (λ e. omega (arith, f.probe)))
            (on_other_kind Receive m q p (values_of no_message) (λ e. omega (arith, f.probe)));
      })
      sound o)
  one_call q k y (wait delta) = nothing q (state_after t s (wait delta)) (wait_queues t s delta q (in_room q k)) refl refl
  one_call q k y (read r) = nothing q s refl refl refl

-- ---- the shape of a queue, from what is known of a state
shape : (t : List ℕ) → system_formed t false ≡ true → (q : ℕ) → q < channel_count t → {s : List ℕ} → StateSound t s → QueueInShape t s q
shape t formed q known {s} h =
    let sound = formed_sound t formed in
    let Q = queue_part s q in
    let kept = h.queue q known in
    let long = queue_length Q in
    let wide = kinds_length sound q known in
    let whole : stored_of Q % slots_for (width_of t q) ≡ 0 = subst (λ (n : ℕ). stored_of Q % slots_for n ≡ 0) wide kept.whole in
    record {
      whole = subst (λ (n : ℕ). n % slots_for (width_of t q) ≡ 0) (sym long) whole;
      low = subst (λ (n : ℕ). n ≤ ceiling_at t q) (sym long) kept.low;
      kind = λ i l.
          let m : i < stored_of Q = omega (arith, long) in
          let some : 0 < width_of t q = whole_wide (width_of t q) (stored_of Q) whole (omega arith) in
          kept.kind i m
          ∙ ap (λ (n : ℕ). get_or (channel_kinds t q) (i % slots_for n) 0) wide
          ∙ kinds_at sound q known (i % slots_for (width_of t q)) (kind_place_lem (width_of t q) (slots_for (width_of t q)) i refl some);
    }

-- ---- a chain
module _ (t : List ℕ) (formed : system_formed t false ≡ true) (q : ℕ) (known : q < channel_count t) where
  abbrev queue : List ℕ → List Slot
  queue s = queue_of (queue_part s q)

  many_calls : stores (capacity_of t q) ≡ true → (s : List ℕ) → StateSound t s → (calls : List Call)
      → queue s ++ sent_over q t s calls ≡ received_over q t s calls ++ queue (state_after_all t s calls)
  many_calls y s h [] = append-nil (queue s)
  many_calls y s h (call ∷ calls) =
      let u = state_after t s call in
      let sent = values_by Send q t s call in
      let received = values_by Receive q t s call in
      sym (append_assoc (queue s) sent (sent_over q t u calls))
      ∙ ap (λ (x : List Slot). x ++ sent_over q t u calls) (one_call t formed s h q known y call)
      ∙ append_assoc received (queue u) (sent_over q t u calls)
      ∙ ap (λ (x : List Slot). received ++ x) (many_calls y u (call_sound t formed s h call) calls)
      ∙ sym (append_assoc received (received_over q t u calls) (queue (state_after_all t u calls)))

  -- ---- from a fresh state
  module _ (s : List ℕ) (words : StateWords s) where
    -- From a fresh state, after any calls, and for every channel that is no sink: the values of the sends, in order, are the values of
    -- the receives, in order, followed by the queue.
    pub chain_values : (capacity_of t q ≡ Sink → ⊥) → (calls : List Call)
        → sent_over q t (fresh_state t s) calls
        ≡ received_over q t (fresh_state t s) calls ++ queue_of (queue_part (state_after_all t (fresh_state t s) calls) q)
    chain_values stored calls =
        ap (λ (x : List Slot). x ++ sent_over q t (fresh_state t s) calls) (sym (fresh_state_empty t (formed_sound t formed) s words q known))
        ∙ many_calls (no_sink (capacity_of t q) stored) (fresh_state t s) (fresh_is_sound t formed s words) calls

    -- The queue of a sink is empty.
    pub chain_sink : capacity_of t q ≡ Sink → (calls : List Call) → queue_of (queue_part (state_after_all t (fresh_state t s) calls) q) ≡ []
    chain_sink sink calls =
        sink_empty (queue_part (state_after_all t (fresh_state t s) calls) q) (channel_kinds t q)
        (subst (QueueKept (queue_part (state_after_all t (fresh_state t s) calls) q) (channel_kinds t q))
        (ap (ceiling (width_of t q)) sink ∙ sink_ceiling (width_of t q)) ((chain_state t formed s words calls).queue q known))

    -- After any calls the queue is in whole messages of the channel's kinds, and no longer than its ceiling.
    pub chain_shape : (calls : List Call) → QueueInShape t (state_after_all t (fresh_state t s) calls) q
    chain_shape calls = shape t formed q known (chain_state t formed s words calls)
