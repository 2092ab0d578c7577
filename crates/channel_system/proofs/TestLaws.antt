-- What the test of a channel answers, exactly when: a number for each reason.
use Rattle.graph_tables.specs.Answers.{admitted}
use Prim.Native.Nat.{ℕ, ◌+◌, ◌<◌, ◌≤◌}
use mathlib.Core.Path.{◌≡◌, refl, sym, ap, subst, ◌∙◌}
use mathlib.Core.Bool.{Bool, true, false, not}
use mathlib.Core.Logic.{◌↔◌, inl, inr, ⊎_elim}
use native.Mathlib.Omega.{arith}
use borrow.Author.Tests.{ltb-true, ltb-false, lt-ltb, leb-true, leb-false, le-leb, eqb-true, eqb-false, le-ltb, lt-leb, eq-eqb, ne_eqb}
use borrow.Author.Tests.{not-true, not-false}
use lib.Dec.{eqb, leb, ltb}
use Rattle.laws.specs.Ladder.{unless}
use Rattle.laws.proofs.Tests.{never}
use Rattle.graph_checks.specs.Checks.{refused_by}
use Rattle.program_graph.specs.Facts.{Accepted}
use Rattle.program_graph.proofs.AnswerLaws.{accepted_ok, not_ok}
use Rattle.program_graph.proofs.RunReady.{through}
use Rattle.queues.specs.Layout.{slot_room}
use Rattle.queues.specs.Queues.{slots_for}
use Rattle.system_tables.specs.Words.{message_word}
use Rattle.system_tables.specs.declared.ids.ChannelCapacity.{ChannelCapacity}
use Rattle.system_tables.specs.declared.ids.ChannelCapacity.TheVariants.{Bounded, Unbounded, Sink}
use Rattle.system_tables.specs.declared.ids.Message.{Message}
use Rattle.system_tables.specs.declared.ids.Message.TheVariants.{Send, Receive, ProbeEmptyQueue, ProbeFullQueue}
use Rattle.channel_system.specs.Channels.{handshake, send_test, receive_test, empty_test, reached, full_test, step_test}
use Rattle.channel_system.specs.Asked.{Answers, Reached, Below, Crowded, Handshake, NotFull, Roomy, Takes}
use Rattle.channel_system.proofs.RungLaws.{rung_on, rung_here, rung_last, rung_none, both_so, never_so, not_so}

-- ---- capacities, and messages, that are not the same
abbrev bound_in : ChannelCapacity → ℕ
bound_in (Bounded n) = n
bound_in Unbounded = 0
bound_in Sink = 0

abbrev sort_in : ChannelCapacity → ℕ
sort_in (Bounded n) = 0
sort_in Unbounded = 1
sort_in Sink = 2

pub same_bound : {n k : ℕ} → Bounded n ≡ Bounded k → n ≡ k
same_bound e = ap bound_in e

pub other_sort : {c d : ChannelCapacity} → (sort_in c ≡ sort_in d → ⊥) → c ≡ d → ⊥
other_sort f e = f (ap sort_in e)

pub other_message : {m k : Message} → (message_word m ≡ message_word k → ⊥) → m ≡ k → ⊥
other_message f e = f (ap message_word e)

-- ---- bounds
reached_so : (n stored : ℕ) → (n ≤ stored) ↔ Reached stored (Bounded n)
reached_so n stored = (
  λ l. record { bound = n; bounded = refl; reached = l },
  λ r. subst (λ (k : ℕ). k ≤ stored) (sym (same_bound r.bounded)) r.reached,
)

pub below_so : (n stored : ℕ) → (stored < n) ↔ Below stored (Bounded n)
below_so n stored = (
  λ l. record { bound = n; bounded = refl; below = l },
  λ r. subst (λ (k : ℕ). stored < k) (sym (same_bound r.bounded)) r.below,
)

-- capacity 0, as the test says it
pub handshake_so : (c : ChannelCapacity) → (handshake c ≡ true) ↔ Handshake c
handshake_so (Bounded n) = (λ e. ap Bounded (eqb-true n 0 e), λ e. eq-eqb n 0 (same_bound e))
handshake_so Unbounded = (λ e. never e, λ e. absurd (other_sort (λ x. omega arith) e))
handshake_so Sink = (λ e. never e, λ e. absurd (other_sort (λ x. omega arith) e))

open_so : (c : ChannelCapacity) → (not (handshake c) ≡ true) ↔ (Handshake c → ⊥)
open_so c = through (λ e. not-true _ e, λ e. ap not e) (not_so (handshake c) (handshake_so c))

shut_so : (c : ChannelCapacity) → (not (handshake c) ≡ false) ↔ Handshake c
shut_so c = through (λ e. not-false _ e, λ e. ap not e) (handshake_so c)

-- ---- a send
module _ (stored width : ℕ) where
  pub send_20 : (c : ChannelCapacity) → Answers 20 (send_test stored width c) ↔ Reached stored c
  unfolding send_test
  send_20 (Bounded n) =
      through (rung_here (Answers 20) (ltb stored n) (refused_by 20) admitted refl (λ e. omega arith))
      (through (λ e. ltb-false _ _ e, λ l. le-ltb stored n l) (reached_so n stored))
  send_20 Unbounded =
      never_so (rung_none (Answers 20) _ (refused_by 27) admitted (λ e. omega arith) (λ e. omega arith))
      (λ r. other_sort (λ x. omega arith) r.bounded)
  send_20 Sink = never_so (λ e. omega arith) (λ r. other_sort (λ x. omega arith) r.bounded)

  pub send_27 : (c : ChannelCapacity) → Answers 27 (send_test stored width c) ↔ Crowded stored width c
  unfolding send_test
  send_27 (Bounded n) =
      never_so (rung_none (Answers 27) _ (refused_by 20) admitted (λ e. omega arith) (λ e. omega arith))
      (λ r. other_sort (λ x. omega arith) r.unbounded)
  send_27 Unbounded =
      through (rung_here (Answers 27) (leb (stored + slots_for width) slot_room) (refused_by 27) admitted refl (λ e. omega arith))
      (λ e. record { unbounded = refl; over = leb-false _ _ e }, λ r. lt-leb (stored + slots_for width) slot_room r.over)
  send_27 Sink = never_so (λ e. omega arith) (λ r. other_sort (λ x. omega arith) r.unbounded)

  -- it answers nothing else
  pub send_none : (n : ℕ) → (n ≡ 0 → ⊥) → (n ≡ 20 → ⊥) → (n ≡ 27 → ⊥) → (c : ChannelCapacity) → Answers n (send_test stored width c) → ⊥
  unfolding send_test
  send_none n x y z (Bounded k) = rung_none (Answers n) _ (refused_by 20) admitted (λ e. y (sym e)) (λ e. x (sym e))
  send_none n x y z Unbounded = rung_none (Answers n) _ (refused_by 27) admitted (λ e. z (sym e)) (λ e. x (sym e))
  send_none n x y z Sink = λ e. x (sym e)

-- ---- a receive
module _ (stored : ℕ) where
  pub receive_21 : Answers 21 (receive_test stored) ↔ (stored ≡ 0)
  unfolding receive_test
  receive_21 =
      through (rung_here (Answers 21) (ltb 0 stored) (refused_by 21) admitted refl (λ e. omega arith))
      (λ e. let l : stored ≤ 0 = ltb-false 0 stored e in omega arith, λ e. le-ltb 0 stored (omega arith))

  pub receive_none : (n : ℕ) → (n ≡ 0 → ⊥) → (n ≡ 21 → ⊥) → Answers n (receive_test stored) → ⊥
  unfolding receive_test
  receive_none n x y = rung_none (Answers n) _ (refused_by 21) admitted (λ e. y (sym e)) (λ e. x (sym e))

  -- ---- a probe of an empty queue
  pub empty_24 : (c : ChannelCapacity) → Answers 24 (empty_test stored c) ↔ Handshake c
  unfolding empty_test
  empty_24 c =
      through
      (rung_here (Answers 24) (not (handshake c)) (refused_by 24) _ refl
      (rung_none (Answers 24) _ (refused_by 22) admitted (λ e. omega arith) (λ e. omega arith)))
      (shut_so c)

  pub empty_22 : (c : ChannelCapacity) → Answers 22 (empty_test stored c) ↔ ((Handshake c → ⊥) × (0 < stored))
  unfolding empty_test
  empty_22 c =
      through
      (rung_on (Answers 22) (not (handshake c)) (refused_by 24) _ (λ e. omega arith)
      (rung_here (Answers 22) (eqb stored 0) (refused_by 22) admitted refl (λ e. omega arith)))
      (both_so (open_so c)
      (λ e. let n : stored ≡ 0 → ⊥ = eqb-false stored 0 e in omega arith, λ l. ne_eqb stored 0 (λ e. omega arith)))

  pub empty_none : (n : ℕ) → (n ≡ 0 → ⊥) → (n ≡ 24 → ⊥) → (n ≡ 22 → ⊥) → (c : ChannelCapacity) → Answers n (empty_test stored c) → ⊥
  unfolding empty_test
  empty_none n x y z c =
      rung_none (Answers n) _ (refused_by 24) _ (λ e. y (sym e))
      (rung_none (Answers n) _ (refused_by 22) admitted (λ e. z (sym e)) (λ e. x (sym e)))

  -- ---- a probe of a full one
  reached_none : (n : ℕ) → (n ≡ 0 → ⊥) → (n ≡ 23 → ⊥) → (n ≡ 25 → ⊥) → (c : ChannelCapacity) → Answers n (reached stored c) → ⊥
  reached_none n x y z (Bounded k) = rung_none (Answers n) _ (refused_by 23) admitted (λ e. y (sym e)) (λ e. x (sym e))
  reached_none n x y z Unbounded = λ e. z (sym e)
  reached_none n x y z Sink = λ e. y (sym e)

  reached_25 : (c : ChannelCapacity) → Answers 25 (reached stored c) ↔ (c ≡ Unbounded)
  reached_25 (Bounded n) =
      never_so (rung_none (Answers 25) _ (refused_by 23) admitted (λ e. omega arith) (λ e. omega arith)) (other_sort (λ x. omega arith))
  reached_25 Unbounded = (λ e. refl, λ e. refl)
  reached_25 Sink = never_so (λ e. omega arith) (other_sort (λ x. omega arith))

  reached_23 : (c : ChannelCapacity) → Answers 23 (reached stored c) ↔ NotFull stored c
  reached_23 (Bounded n) =
      through (rung_here (Answers 23) (leb n stored) (refused_by 23) admitted refl (λ e. omega arith))
      (through (λ e. leb-false _ _ e, λ l. lt-leb n stored l)
      (λ l. inr ((below_so n stored).0 l), ⊎_elim (λ e. absurd (other_sort (λ x. omega arith) e)) (λ b. (below_so n stored).1 b)))
  reached_23 Unbounded =
      never_so (λ e. omega arith)
      (⊎_elim (other_sort (λ x. omega arith)) (λ (b : Below stored Unbounded). other_sort (λ x. omega arith) b.bounded))
  reached_23 Sink = (λ e. inl refl, λ e. refl)

  pub full_24 : (c : ChannelCapacity) → Answers 24 (full_test stored c) ↔ Handshake c
  unfolding full_test
  full_24 c =
      through
      (rung_here (Answers 24) (not (handshake c)) (refused_by 24) (reached stored c) refl
      (reached_none 24 (λ e. omega arith) (λ e. omega arith) (λ e. omega arith) c))
      (shut_so c)

  pub full_25 : (c : ChannelCapacity) → Answers 25 (full_test stored c) ↔ (c ≡ Unbounded)
  unfolding full_test
  full_25 c =
      through
      (rung_on (Answers 25) (not (handshake c)) (refused_by 24) (reached stored c) (λ e. omega arith) (reached_25 c))
      (λ p. p.1, λ e. ((open_so c).1 (λ h. other_sort (λ x. omega arith) (sym e ∙ h)), e))

  pub full_23 : (c : ChannelCapacity) → Answers 23 (full_test stored c) ↔ NotFull stored c
  unfolding full_test
  full_23 c =
      through
      (rung_on (Answers 23) (not (handshake c)) (refused_by 24) (reached stored c) (λ e. omega arith) (reached_23 c))
      (λ p. p.1, λ f. ((open_so c).1 (open_not_full f), f))
    where
      open_not_full : NotFull stored c → Handshake c → ⊥
      open_not_full (inl e) h = other_sort (λ x. omega arith) (sym e ∙ h)
      open_not_full (inr b) h =
          let none : b.bound ≡ 0 = same_bound (sym b.bounded ∙ h) in
          let some : stored < b.bound = b.below in
          omega arith

  pub full_none : (n : ℕ) → (n ≡ 0 → ⊥) → (n ≡ 24 → ⊥) → (n ≡ 23 → ⊥) → (n ≡ 25 → ⊥) → (c : ChannelCapacity) → Answers n (full_test stored c)
      → ⊥
  unfolding full_test
  full_none n x y z w c = rung_none (Answers n) _ (refused_by 24) (reached stored c) (λ e. y (sym e)) (reached_none n x z w c)

-- ---- a test that passes
-- one rung, and no other
one_rung_ok : (b : Bool) (n : ℕ) → Accepted (unless b (refused_by n) admitted) ↔ (b ≡ true)
one_rung_ok b n = rung_last Accepted b (refused_by n) admitted not_ok accepted_ok

module _ (stored width : ℕ) where
  send_passes : (c : ChannelCapacity) → Accepted (send_test stored width c) ↔ Takes Send stored width c
  unfolding send_test
  send_passes (Bounded n) =
      through (one_rung_ok (ltb stored n) 20)
      (through (λ e. ltb-true _ _ e, λ l. lt-ltb stored n l)
      (λ l. inl ((below_so n stored).0 l), ⊎_elim (below_so n stored).1 (⊎_elim (λ r. absurd (no_room r)) (λ e. absurd (no_sink e)))))
    where
      no_room : Roomy stored width (Bounded n) → ⊥
      no_room r = other_sort (λ x. omega arith) r.unbounded

      no_sink : Bounded n ≡ Sink → ⊥
      no_sink e = other_sort (λ x. omega arith) e
  send_passes Unbounded =
      through (one_rung_ok (leb (stored + slots_for width) slot_room) 27) (
        λ e. inr (inl (record { unbounded = refl; room = leb-true _ _ e })),
        ⊎_elim (λ b. absurd (no_bound b)) (⊎_elim (λ (r : Roomy stored width Unbounded). le-leb _ _ r.room) (λ e. absurd (no_sink e))),
      )
    where
      no_bound : Below stored Unbounded → ⊥
      no_bound b = other_sort (λ x. omega arith) b.bounded

      no_sink : Unbounded ≡ Sink → ⊥
      no_sink e = other_sort (λ x. omega arith) e
  send_passes Sink = (λ k. inr (inr refl), λ k. accepted_ok)

  reached_passes : (c : ChannelCapacity) → Accepted (reached stored c) ↔ Reached stored c
  reached_passes (Bounded n) =
      through (one_rung_ok (leb n stored) 23) (through (λ e. leb-true _ _ e, λ l. le-leb n stored l) (reached_so n stored))
  reached_passes Unbounded = never_so not_ok (λ r. other_sort (λ x. omega arith) r.bounded)
  reached_passes Sink = never_so not_ok (λ r. other_sort (λ x. omega arith) r.bounded)

  -- The test passes exactly when the channel takes the message.
  pub test_passes : (m : Message) (c : ChannelCapacity) → Accepted (step_test m stored width c) ↔ Takes m stored width c
  unfolding receive_test empty_test full_test
  test_passes Send c = send_passes c
  test_passes Receive c = through (one_rung_ok (ltb 0 stored) 21) (λ e. ltb-true _ _ e, λ l. lt-ltb 0 stored l)
  test_passes ProbeEmptyQueue c =
      through (rung_on Accepted (not (handshake c)) (refused_by 24) _ not_ok (one_rung_ok (eqb stored 0) 22))
      (both_so (open_so c) (λ e. eqb-true _ _ e, λ e. eq-eqb stored 0 e))
  test_passes ProbeFullQueue c =
      through (rung_on Accepted (not (handshake c)) (refused_by 24) (reached stored c) not_ok (reached_passes c)) (both_so (open_so c) same)
    where
      same : Reached stored c ↔ Reached stored c
      same = (λ r. r, λ r. r)
