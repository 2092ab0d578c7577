-- What the communication of an action says of it, case by case, in a sound system.
use Prim.Native.Nat.{ℕ, zero, suc, ◌≤◌, ◌<◌}
use mathlib.Core.Path.{◌≡◌, refl, sym, ap, ◌∙◌}
use mathlib.Core.Bool.{Bool, true, false, cond}
use mathlib.Core.List.{List}
use native.Mathlib.Omega.{arith}
use borrow.Author.Tests.{eqb-true, eqb-false}
use lib.Dec.{eqb}
use Rattle.graph_tables.specs.Messages.{is_plain, is_send, is_receive}
use Rattle.system_tables.specs.Sizes.{no_communication, send_message, full_message}
use Rattle.system_tables.specs.Words.{channel_count, message_part, channel_part, message_of, message_word, communication_in, communication_word}
use Rattle.system_tables.specs.Sound.{MessageSound, ProbeSound, CommunicationSound}
use Rattle.system_tables.specs.declared.ids.Channel.{Channel}
use Rattle.system_tables.specs.declared.ids.Message.{Message}
use Rattle.system_tables.specs.declared.ids.Message.TheVariants.{Send, Receive, ProbeEmptyQueue, ProbeFullQueue}
use Rattle.system_tables.specs.declared.ids.Communication.TheVariants.{Plain, On}

-- the word of a kind is the kind that it stands for
kind_back : (k : ℕ) → send_message ≤ k → k ≤ full_message → message_word (message_of k) ≡ k
kind_back zero l h = absurd (omega arith)
kind_back (suc zero) l h = refl
kind_back (suc (suc zero)) l h = refl
kind_back (suc (suc (suc zero))) l h = refl
kind_back (suc (suc (suc (suc zero)))) l h = refl
kind_back (suc (suc (suc (suc (suc k))))) l h = absurd (omega arith)

-- what each kind of message on channel q says of action a, of the graph with the words G
abbrev pub Says : List ℕ → ℕ → List ℕ → ℕ → Message → Type 0
Says t q G a Send = (is_send G a ≡ true) × MessageSound t q G a
Says t q G a Receive = (is_receive G a ≡ true) × MessageSound t q G a
Says t q G a ProbeEmptyQueue = ProbeSound G a
Says t q G a ProbeFullQueue = ProbeSound G a

module _ {t : List ℕ} {w : ℕ} {G : List ℕ} {a : ℕ} (s : CommunicationSound t w G a) where
  pub plain_says : communication_in w ≡ Plain → is_plain G a ≡ true
  plain_says h = by (eqb w no_communication) refl h
    where
      by : (b : Bool) → eqb w no_communication ≡ b → cond b Plain (On (message_of (message_part w)) (record { 0 = channel_part w })) ≡ Plain
          → is_plain G a ≡ true
      by true e f = s.plain (eqb-true _ _ e)
      by false e f = let z : ◌≡◌ {A = ℕ} 0 1 = cc in absurd (omega arith)

  says : (m : Message) → message_part w ≡ message_word m → Says t (channel_part w) G a m
  says Send e = s.send e
  says Receive e = s.receive e
  says ProbeEmptyQueue e = s.empty e
  says ProbeFullQueue e = s.full e

  pub message_says : (m : Message) (q : Channel) → communication_in w ≡ On m q → (q.0 < channel_count t) × Says t q.0 G a m
  message_says m q h = by (eqb w no_communication) refl h
    where
      by : (b : Bool) → eqb w no_communication ≡ b → cond b Plain (On (message_of (message_part w)) (record { 0 = channel_part w })) ≡ On m q
          → (q.0 < channel_count t) × Says t q.0 G a m
      by true e f = let z : ◌≡◌ {A = ℕ} 0 1 = cc in absurd (omega arith)
      by false e f =
          let some : w ≡ no_communication → ⊥ = eqb-false _ _ e in
          let same : message_of (message_part w) ≡ m = cc in
          let place : ◌≡◌ {A = Channel} (record { 0 = channel_part w }) q = cc in
          let number : channel_part w ≡ q.0 = ap (λ (c : Channel). c.0) place in
          let kind : message_part w ≡ message_word m = sym (kind_back (message_part w) (s.low some) (s.high some)) ∙ ap message_word same in
          (rw number at (s.channel some), rw number at (says m kind))

  -- the word is that of the communication that it stands for
  pub word_back : communication_word (communication_in w) ≡ w
  word_back = by (eqb w no_communication) refl
    where
      by : (b : Bool) → eqb w no_communication ≡ b → communication_word (communication_in w) ≡ w
      by true e = rw e (sym (eqb-true w no_communication e))
      by false e =
          let some : w ≡ no_communication → ⊥ = eqb-false _ _ e in
          let kind = kind_back (message_part w) (s.low some) (s.high some) in
          rw e (omega (arith, kind))
