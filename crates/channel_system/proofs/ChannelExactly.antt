-- When a step of a system answers each of the numbers that come before its graph is asked: exactly when.
use Rattle.std.specs.Prelude.{Ok, Err, ⊤}
use Prim.Native.Nat.{ℕ, ◌/◌, ◌<◌, ◌≤◌}
use mathlib.Core.Path.{◌≡◌, refl, sym, ap, subst, ◌∙◌}
use mathlib.Core.Bool.{Bool, true, false, cond}
use mathlib.Core.List.{List}
use mathlib.Core.Logic.{◌↔◌, ◌⊎◌, inl, inr, ⊎_elim}
use native.Mathlib.Omega.{arith}
use borrow.Author.Tests.{ltb-true, ltb-false, lt-ltb, le-ltb, eqb-true, eqb-false, eq-eqb, ne_eqb}
use lib.Dec.{eqb, ltb}
use lib.ListN.{length, get_or}
use Rattle.laws.specs.Ladder.{unless}
use Rattle.laws.specs.Below.{all_below}
use Rattle.laws.proofs.Ladder.{passed, rung}
use Rattle.laws.proofs.BelowLaws.{all_at, all_from, all_fails}
use Rattle.graph_tables.specs.Sizes.{word32}
use Rattle.graph_tables.specs.Words.{action_count}
use Rattle.graph_tables.specs.Answers.{Answer, answer_number}
use Rattle.graph_checks.specs.Checks.{refused_by}
use Rattle.program_graph.specs.Facts.{Accepted, Not}
use Rattle.program_graph.proofs.RunLaws.{chosen}
use Rattle.program_graph.proofs.AnswerLaws.{accepted_ok, not_ok}
use Rattle.program_graph.proofs.RunReady.{through}
use Rattle.queues.specs.Queues.{stored_of}
use Rattle.queues.proofs.QueueLaws.{queue_length}
use Rattle.queues.proofs.MessageLaws.{slots_width}
use Rattle.system_tables.specs.Words.{graph_count, channel_count, width_of, capacity_of, graph_part, communication_of}
use Rattle.system_tables.specs.Sound.{SystemSound}
use Rattle.system_tables.specs.Ceiling.{ceiling}
use Rattle.system_tables.specs.declared.ids.ChannelCapacity.{ChannelCapacity}
use Rattle.system_tables.specs.declared.ids.ChannelCapacity.TheVariants.{Bounded, Unbounded, Sink}
use Rattle.system_tables.specs.declared.ids.Message.{Message}
use Rattle.system_tables.specs.declared.ids.Message.TheVariants.{Send, Receive, ProbeEmptyQueue, ProbeFullQueue}
use Rattle.system_tables.specs.declared.ids.Communication.{Communication}
use Rattle.system_tables.specs.declared.ids.Communication.TheVariants.{Plain, On}
use Rattle.system_tables.proofs.CeilingLaws.{sink_ceiling, no_slots}
use Rattle.system_state.specs.Words.{queue_part}
use Rattle.system_state.specs.Fits.{StateSound}
use Rattle.channel_system.specs.Channels.{step_test, send_test, receive_test, empty_test, reached, full_test}
use Rattle.channel_system.specs.Steps.{system_fits, own_post, locations_of, run_of, Moved, refused_step, plain_step, send_step, receive_step}
use Rattle.channel_system.specs.Steps.{probe_step, message_step, open_if, channel_answer, step_as, spoken_by, moved_of, transition_of}
use Rattle.channel_system.specs.Steps.{oldest_in}
use Rattle.channel_system.specs.Facts.{Speaks}
use Rattle.channel_system.specs.Asked.{Answers, answer_of, Asked, Foreign, stored_in, Reached, Crowded, Handshake, NotFull}
use Rattle.channel_system.specs.Asked.{Probe, Takes, ChannelTakes, ByChannel}
use Rattle.channel_system.proofs.RungLaws.{rung_on, rung_here, rung_none, both_so, never_so, not_so}
use Rattle.channel_system.proofs.RungLaws.{not_either, all_missing}
use Rattle.channel_system.proofs.GraphAnswers.{OfGraph, step_answers, send_answers, receive_answers}
use Rattle.channel_system.proofs.TestLaws.{other_message, send_20, send_27, send_none, receive_21, receive_none, empty_24, empty_22}
use Rattle.channel_system.proofs.TestLaws.{empty_none, full_24, full_25, full_23, full_none, test_passes}

-- ---- the test of a channel, of whichever message
-- what is so of this message, and of no other
this : {m k : Message} {A B : Type 0} → m ≡ k → A ↔ B → A ↔ ((m ≡ k) × B)
this e f = (λ a. (e, f.0 a), λ p. f.1 p.1)

not_this : {m k : Message} {A B : Type 0} → (A → ⊥) → (m ≡ k → ⊥) → A ↔ ((m ≡ k) × B)
not_this f g = never_so f (λ p. g p.0)

module _ (stored width : ℕ) (c : ChannelCapacity) where
  pub test_20 : (m : Message) → Answers 20 (step_test m stored width c) ↔ ((m ≡ Send) × Reached stored c)
  test_20 Send = this refl (send_20 stored width c)
  test_20 Receive = not_this (receive_none stored 20 (λ e. omega arith) (λ e. omega arith)) (other_message (λ e. omega arith))
  test_20 ProbeEmptyQueue =
      not_this (empty_none stored 20 (λ e. omega arith) (λ e. omega arith) (λ e. omega arith) c) (other_message (λ e. omega arith))
  test_20 ProbeFullQueue =
      not_this (full_none stored 20 (λ e. omega arith) (λ e. omega arith) (λ e. omega arith) (λ e. omega arith) c)
      (other_message (λ e. omega arith))

  pub test_27 : (m : Message) → Answers 27 (step_test m stored width c) ↔ ((m ≡ Send) × Crowded stored width c)
  test_27 Send = this refl (send_27 stored width c)
  test_27 Receive = not_this (receive_none stored 27 (λ e. omega arith) (λ e. omega arith)) (other_message (λ e. omega arith))
  test_27 ProbeEmptyQueue =
      not_this (empty_none stored 27 (λ e. omega arith) (λ e. omega arith) (λ e. omega arith) c) (other_message (λ e. omega arith))
  test_27 ProbeFullQueue =
      not_this (full_none stored 27 (λ e. omega arith) (λ e. omega arith) (λ e. omega arith) (λ e. omega arith) c)
      (other_message (λ e. omega arith))

  pub test_21 : (m : Message) → Answers 21 (step_test m stored width c) ↔ ((m ≡ Receive) × (stored ≡ 0))
  test_21 Send =
      not_this (send_none stored width 21 (λ e. omega arith) (λ e. omega arith) (λ e. omega arith) c) (other_message (λ e. omega arith))
  test_21 Receive = this refl (receive_21 stored)
  test_21 ProbeEmptyQueue =
      not_this (empty_none stored 21 (λ e. omega arith) (λ e. omega arith) (λ e. omega arith) c) (other_message (λ e. omega arith))
  test_21 ProbeFullQueue =
      not_this (full_none stored 21 (λ e. omega arith) (λ e. omega arith) (λ e. omega arith) (λ e. omega arith) c)
      (other_message (λ e. omega arith))

  pub test_22 : (m : Message)
      → Answers 22 (step_test m stored width c) ↔ ((m ≡ ProbeEmptyQueue) × ((Handshake c → ⊥) × (0 < stored)))
  test_22 Send =
      not_this (send_none stored width 22 (λ e. omega arith) (λ e. omega arith) (λ e. omega arith) c) (other_message (λ e. omega arith))
  test_22 Receive = not_this (receive_none stored 22 (λ e. omega arith) (λ e. omega arith)) (other_message (λ e. omega arith))
  test_22 ProbeEmptyQueue = this refl (empty_22 stored c)
  test_22 ProbeFullQueue =
      not_this (full_none stored 22 (λ e. omega arith) (λ e. omega arith) (λ e. omega arith) (λ e. omega arith) c)
      (other_message (λ e. omega arith))

  pub test_23 : (m : Message) → Answers 23 (step_test m stored width c) ↔ ((m ≡ ProbeFullQueue) × NotFull stored c)
  test_23 Send =
      not_this (send_none stored width 23 (λ e. omega arith) (λ e. omega arith) (λ e. omega arith) c) (other_message (λ e. omega arith))
  test_23 Receive = not_this (receive_none stored 23 (λ e. omega arith) (λ e. omega arith)) (other_message (λ e. omega arith))
  test_23 ProbeEmptyQueue =
      not_this (empty_none stored 23 (λ e. omega arith) (λ e. omega arith) (λ e. omega arith) c) (other_message (λ e. omega arith))
  test_23 ProbeFullQueue = this refl (full_23 stored c)

  pub test_25 : (m : Message) → Answers 25 (step_test m stored width c) ↔ ((m ≡ ProbeFullQueue) × (c ≡ Unbounded))
  test_25 Send =
      not_this (send_none stored width 25 (λ e. omega arith) (λ e. omega arith) (λ e. omega arith) c) (other_message (λ e. omega arith))
  test_25 Receive = not_this (receive_none stored 25 (λ e. omega arith) (λ e. omega arith)) (other_message (λ e. omega arith))
  test_25 ProbeEmptyQueue =
      not_this (empty_none stored 25 (λ e. omega arith) (λ e. omega arith) (λ e. omega arith) c) (other_message (λ e. omega arith))
  test_25 ProbeFullQueue = this refl (full_25 stored c)

  no_probe : {m : Message} → (m ≡ ProbeEmptyQueue → ⊥) → (m ≡ ProbeFullQueue → ⊥) → Probe m → ⊥
  no_probe f g = ⊎_elim f g

  pub test_24 : (m : Message) → Answers 24 (step_test m stored width c) ↔ (Probe m × Handshake c)
  test_24 Send =
      never_so (send_none stored width 24 (λ e. omega arith) (λ e. omega arith) (λ e. omega arith) c)
      (λ p. no_probe (other_message (λ e. omega arith)) (other_message (λ e. omega arith)) p.0)
  test_24 Receive =
      never_so (receive_none stored 24 (λ e. omega arith) (λ e. omega arith))
      (λ p. no_probe (other_message (λ e. omega arith)) (other_message (λ e. omega arith)) p.0)
  test_24 ProbeEmptyQueue = (λ a. (inl refl, (empty_24 stored c).0 a), λ p. (empty_24 stored c).1 p.1)
  test_24 ProbeFullQueue = (λ a. (inr refl, (full_24 stored c).0 a), λ p. (full_24 stored c).1 p.1)

-- it answers ok, or with a number of its own
abbrev pub OfChannel : Answer ⊤ → Type 0
OfChannel d = Accepted d ⊎ ByChannel (answer_number d)

-- a rung of a channel's ladder
one_rung : (b : Bool) (n : ℕ) (rest : Answer ⊤) → ByChannel (answer_number (refused_by n)) → OfChannel rest
    → OfChannel (unless b (refused_by n) rest)
one_rung b n rest own h = rung OfChannel b (refused_by n) rest (inr own) (λ e. h)

module _ (stored width : ℕ) where
  send_answers_so : (c : ChannelCapacity) → OfChannel (send_test stored width c)
  unfolding send_test
  send_answers_so (Bounded n) =
      one_rung _ 20 _ (record { low = omega arith; high = omega arith; other = λ e. omega arith }) (inl accepted_ok)
  send_answers_so Unbounded =
      one_rung _ 27 _ (record { low = omega arith; high = omega arith; other = λ e. omega arith }) (inl accepted_ok)
  send_answers_so Sink = inl accepted_ok

  reached_so : (c : ChannelCapacity) → OfChannel (reached stored c)
  reached_so (Bounded n) =
      one_rung _ 23 _ (record { low = omega arith; high = omega arith; other = λ e. omega arith }) (inl accepted_ok)
  reached_so Unbounded = inr (record { low = omega arith; high = omega arith; other = λ e. omega arith })
  reached_so Sink = inr (record { low = omega arith; high = omega arith; other = λ e. omega arith })

  pub test_answers : (m : Message) (c : ChannelCapacity) → OfChannel (step_test m stored width c)
  unfolding receive_test empty_test full_test
  test_answers Send c = send_answers_so c
  test_answers Receive c =
      one_rung _ 21 _ (record { low = omega arith; high = omega arith; other = λ e. omega arith }) (inl accepted_ok)
  test_answers ProbeEmptyQueue c =
      one_rung _ 24 _ (record { low = omega arith; high = omega arith; other = λ e. omega arith })
      (one_rung _ 22 _ (record { low = omega arith; high = omega arith; other = λ e. omega arith }) (inl accepted_ok))
  test_answers ProbeFullQueue c =
      one_rung _ 24 _ (record { low = omega arith; high = omega arith; other = λ e. omega arith }) (reached_so c)

-- The channel's test passes exactly when the channel takes the message.
pub channel_takes : (t s : List ℕ) (q : ℕ) (m : Message) → Accepted (channel_answer t s q m) ↔ ChannelTakes t s q m
channel_takes t s q m =
    subst (λ (k : ℕ). Accepted (channel_answer t s q m) ↔ Takes m k (width_of t q) (capacity_of t q)) (sym (queue_length (queue_part s q)))
    (test_passes (stored_of (queue_part s q)) (width_of t q) m (capacity_of t q))

-- ---- a channel that is asked first
-- a number that neither is ok nor the graph's is the channel's
opened : (n : ℕ) (d : Answer ⊤) (g : ℕ) (s : List ℕ) (rest : Moved) → (n ≡ 0 → ⊥) → Not n (answer_of rest)
    → Answers n (answer_of (open_if d g s rest)) ↔ Answers n d
opened n (Ok _) g s rest some f = (λ e. absurd (f e), λ e. absurd (some (sym e)))
opened n (Err r) g s rest some f = (λ e. e, λ e. e)

not_graph : {n : ℕ} → ByChannel n → (d : Answer ⊤) → OfGraph d → Not n d
not_graph b d h e =
    let low = b.low in
    ⊎_elim (λ (l : answer_number d ≤ 15). omega arith) (λ (f : answer_number d ≡ 26). b.other (sym e ∙ f)) h

closed : (d : Answer ⊤) (g : ℕ) (s : List ℕ) (rest : Moved) → OfChannel d → OfGraph (answer_of rest)
    → ByChannel (answer_number (answer_of (open_if d g s rest))) ↔ (Accepted d → ⊥)
closed (Ok _) g s rest own h = never_so (λ b. not_graph b (answer_of rest) h refl) (λ n. n accepted_ok)
closed (Err r) g s rest own h = (λ b k. not_ok k, λ n. ⊎_elim (λ k. absurd (n k)) (λ b. b) own)

-- ---- what a step is once graph, action and posts are its own
own_post_lem : (posts : List ℕ) (g i : ℕ) → (own_post posts g i ≡ true) ↔ (get_or posts i 0 / word32 ≡ g)
unfolding own_post
own_post_lem posts g i = (λ e. eqb-true _ _ e, λ e. eq-eqb _ _ e)

other_post : (posts : List ℕ) (g i : ℕ) → (own_post posts g i ≡ false) ↔ (get_or posts i 0 / word32 ≡ g → ⊥)
other_post posts g i = not_so (own_post posts g i) (own_post_lem posts g i)

-- what is asked, from the tests
pub asked_so : (t : List ℕ) (g o : ℕ) (posts : List ℕ) → g < graph_count t → o ≡ g → all_below (length posts) (own_post posts g) ≡ true
    → Asked t g o posts
asked_so t g o posts l e f =
    record { graph = l; own = e; each = λ i k. (own_post_lem posts g i).0 (all_at (own_post posts g) (length posts) i f k) }

module _ (t s : List ℕ) (g o a : ℕ) (posts : List ℕ) (word : ℕ) where
  all_own : Asked t g o posts → all_below (length posts) (own_post posts g) ≡ true
  all_own q = all_from (own_post posts g) (length posts) (λ i l. (own_post_lem posts g i).1 (q.each i l))

  pub asked_moves : Asked t g o posts → moved_of t s g o a posts word ≡ step_as t s g a (locations_of posts) word (spoken_by t g a)
  unfolding moved_of
  asked_moves q =
      sym
      (passed (refused_step 17 g s) (lt-ltb _ _ q.graph)
      (passed (refused_step 18 g s) (eq-eqb _ _ q.own) (passed (refused_step 19 g s) (all_own q) refl)))

  pub spoken_is : (m : Message) (q : ℕ) → Speaks t g a m q → spoken_by t g a ≡ On m (record { 0 = q })
  spoken_is m q h = sym (chosen Plain (lt-ltb _ _ h.action) (sym h.word))

  pub message_moves : (m : Message) (q : ℕ) → Asked t g o posts → Speaks t g a m q
      → moved_of t s g o a posts word ≡ open_if (channel_answer t s q m) g s (message_step t s g a (locations_of posts) word q m)
  message_moves m q asked speaks =
      asked_moves asked ∙ ap (step_as t s g a (locations_of posts) word) (spoken_is m q speaks)

  -- ---- what the graph answers
  pub message_answers : (ps : List ℕ) (q : ℕ) (m : Message) → OfGraph (answer_of (message_step t s g a ps word q m))
  unfolding send_step receive_step probe_step
  message_answers ps q Send = send_answers (graph_part t g) (run_of s g) a ps word
  message_answers ps q Receive = receive_answers (graph_part t g) (run_of s g) a ps (oldest_in t s q)
  message_answers ps q ProbeEmptyQueue = send_answers (graph_part t g) (run_of s g) a ps word
  message_answers ps q ProbeFullQueue = send_answers (graph_part t g) (run_of s g) a ps word

  pub plain_answers : (ps : List ℕ) → OfGraph (answer_of (plain_step t s g a ps word))
  unfolding plain_step
  plain_answers ps = step_answers (graph_part t g) (run_of s g) a ps word

  -- once it is asked, a step answers ok, or a number of the graph's or the channel's: none of 17, 18, 19
  abbrev Inside : ℕ → Type 0
  Inside n = (n ≤ 15) ⊎ ((20 ≤ n) × (n ≤ 27))

  of_graph_inside : (d : Answer ⊤) → OfGraph d → Inside (answer_number d)
  of_graph_inside d h = ⊎_elim (λ l. inl l) (λ (e : answer_number d ≡ 26). inr (omega arith, omega arith)) h

  opened_inside : (d : Answer ⊤) (rest : Moved) → OfChannel d → OfGraph (answer_of rest) → Inside (answer_number (answer_of (open_if d g s rest)))
  opened_inside (Ok _) rest own h = of_graph_inside (answer_of rest) h
  opened_inside (Err r) rest own h = ⊎_elim (λ k. not_ok k) (λ b. inr (b.low, b.high)) own

  inside : (ps : List ℕ) (c : Communication) → Inside (answer_number (answer_of (step_as t s g a ps word c)))
  inside ps Plain = of_graph_inside (answer_of (plain_step t s g a ps word)) (plain_answers ps)
  inside ps (On m q) =
      opened_inside (channel_answer t s q.0 m) (message_step t s g a ps word q.0 m)
      (test_answers (stored_of (queue_part s q.0)) (width_of t q.0) m (capacity_of t q.0)) (message_answers ps q.0 m)

  not_inside : {n k : ℕ} → 16 ≤ n → n ≤ 19 → Inside k → k ≡ n → ⊥
  not_inside {n} {k} l h i e = ⊎_elim (λ (x : k ≤ 15). omega arith) (λ (x : (20 ≤ k) × (k ≤ 27)). omega (arith, x.0)) i

  -- ---- 17, 18, 19
  abbrev Says : ℕ → Moved → Type 0
  Says n m = Answers n (answer_of m)

  -- A step answers 17 exactly when there is no graph g.
  pub refused_17 : Answers 17 (answer_of (moved_of t s g o a posts word)) ↔ (graph_count t ≤ g)
  unfolding moved_of
  refused_17 =
      through
      (rung_here (Says 17) (ltb g (graph_count t)) (refused_step 17 g s) _ refl
      (rung_none (Says 17) _ (refused_step 18 g s) _ (λ e. omega arith)
      (rung_none (Says 17) _ (refused_step 19 g s) _ (λ e. omega arith)
      (not_inside (omega arith) (omega arith) (inside (locations_of posts) (spoken_by t g a))))))
      (λ e. ltb-false _ _ e, λ l. le-ltb g (graph_count t) l)

  -- It answers 18 exactly when there is, and the action is another graph's.
  pub refused_18 : Answers 18 (answer_of (moved_of t s g o a posts word)) ↔ ((g < graph_count t) × (o ≡ g → ⊥))
  unfolding moved_of
  refused_18 =
      through
      (rung_on (Says 18) (ltb g (graph_count t)) (refused_step 17 g s) _ (λ e. omega arith)
      (rung_here (Says 18) (eqb o g) (refused_step 18 g s) _ refl
      (rung_none (Says 18) _ (refused_step 19 g s) _ (λ e. omega arith)
      (not_inside (omega arith) (omega arith) (inside (locations_of posts) (spoken_by t g a))))))
      (both_so (λ e. ltb-true _ _ e, λ l. lt-ltb g (graph_count t) l) (λ e. eqb-false _ _ e, λ n. ne_eqb o g n))

  -- It answers 19 exactly when there is, the action is its own, and some post is another graph's.
  pub refused_19 : Answers 19 (answer_of (moved_of t s g o a posts word)) ↔ ((g < graph_count t) × ((o ≡ g) × Foreign g posts))
  unfolding moved_of
  refused_19 =
      through
      (rung_on (Says 19) (ltb g (graph_count t)) (refused_step 17 g s) _ (λ e. omega arith)
      (rung_on (Says 19) (eqb o g) (refused_step 18 g s) _ (λ e. omega arith)
      (rung_here (Says 19) (all_below (length posts) (own_post posts g)) (refused_step 19 g s) _ refl
      (not_inside (omega arith) (omega arith) (inside (locations_of posts) (spoken_by t g a))))))
      (both_so (λ e. ltb-true _ _ e, λ l. lt-ltb g (graph_count t) l)
      (both_so (λ e. eqb-true _ _ e, λ e. eq-eqb o g e) (foreign, back)))
    where
      foreign : all_below (length posts) (own_post posts g) ≡ false → Foreign g posts
      foreign e =
          let x = all_missing (own_post posts g) (length posts) e in
          record { post = x.0; handed = x.1; other = (other_post posts g x.0).0 x.2 }

      back : Foreign g posts → all_below (length posts) (own_post posts g) ≡ false
      back f = all_fails (own_post posts g) (length posts) f.post f.handed ((other_post posts g f.post).1 f.other)

  -- ---- a communication of graph g: message m on channel q
  module _ (m : Message) (q : ℕ) (asked : Asked t g o posts) (speaks : Speaks t g a m q) where
    -- a number of a channel's is answered exactly when its test answers it, of the queue as a list
    by_channel : (n : ℕ) → ByChannel n
        → Answers n (answer_of (moved_of t s g o a posts word)) ↔ Answers n (step_test m (stored_in s q) (width_of t q) (capacity_of t q))
    by_channel n b =
        let low = b.low in
        subst (λ (k : ℕ). Answers n (answer_of (moved_of t s g o a posts word)) ↔ Answers n (step_test m k (width_of t q) (capacity_of t q)))
        (sym (queue_length (queue_part s q)))
        (subst (λ (x : Moved). Answers n (answer_of x) ↔ Answers n (channel_answer t s q m)) (sym (message_moves m q asked speaks))
        (opened n (channel_answer t s q m) g s (message_step t s g a (locations_of posts) word q m) (λ e. omega arith)
        (not_graph b (answer_of (message_step t s g a (locations_of posts) word q m)) (message_answers (locations_of posts) q m))))

    -- 20 exactly when it is a send, and as many values are stored as the bound, or more.
    pub refused_20 : Answers 20 (answer_of (moved_of t s g o a posts word)) ↔ ((m ≡ Send) × Reached (stored_in s q) (capacity_of t q))
    refused_20 =
        through (by_channel 20 (record { low = omega arith; high = omega arith; other = λ e. omega arith }))
        (test_20 (stored_in s q) (width_of t q) (capacity_of t q) m)

    -- 27 exactly when it is a send to a queue without a bound, and the stored values with the message's are more than there is room for:
    -- whatever was sent and received before.
    pub refused_27 : Answers 27 (answer_of (moved_of t s g o a posts word))
        ↔ ((m ≡ Send) × Crowded (stored_in s q) (width_of t q) (capacity_of t q))
    refused_27 =
        through (by_channel 27 (record { low = omega arith; high = omega arith; other = λ e. omega arith }))
        (test_27 (stored_in s q) (width_of t q) (capacity_of t q) m)

    -- 21 exactly when it is a receive, and nothing is stored.
    pub refused_21 : Answers 21 (answer_of (moved_of t s g o a posts word)) ↔ ((m ≡ Receive) × (stored_in s q ≡ 0))
    refused_21 =
        through (by_channel 21 (record { low = omega arith; high = omega arith; other = λ e. omega arith }))
        (test_21 (stored_in s q) (width_of t q) (capacity_of t q) m)

    -- 24 exactly when it is a probe, and the capacity is 0.
    pub refused_24 : Answers 24 (answer_of (moved_of t s g o a posts word)) ↔ (Probe m × Handshake (capacity_of t q))
    refused_24 =
        through (by_channel 24 (record { low = omega arith; high = omega arith; other = λ e. omega arith }))
        (test_24 (stored_in s q) (width_of t q) (capacity_of t q) m)

    -- 22 exactly when it is a probe of an empty queue, the capacity is not 0, and something is stored.
    pub refused_22 : Answers 22 (answer_of (moved_of t s g o a posts word))
        ↔ ((m ≡ ProbeEmptyQueue) × ((Handshake (capacity_of t q) → ⊥) × (0 < stored_in s q)))
    refused_22 =
        through (by_channel 22 (record { low = omega arith; high = omega arith; other = λ e. omega arith }))
        (test_22 (stored_in s q) (width_of t q) (capacity_of t q) m)

    -- 25 exactly when it is a probe of a full queue, and there is no bound.
    pub refused_25 : Answers 25 (answer_of (moved_of t s g o a posts word)) ↔ ((m ≡ ProbeFullQueue) × (capacity_of t q ≡ Unbounded))
    refused_25 =
        through (by_channel 25 (record { low = omega arith; high = omega arith; other = λ e. omega arith }))
        (test_25 (stored_in s q) (width_of t q) (capacity_of t q) m)

    -- 23 exactly when it is a probe of a full queue, of a sink or of a queue that has fewer values than its bound.
    pub refused_23 : Answers 23 (answer_of (moved_of t s g o a posts word)) ↔ ((m ≡ ProbeFullQueue) × NotFull (stored_in s q) (capacity_of t q))
    refused_23 =
        through (by_channel 23 (record { low = omega arith; high = omega arith; other = λ e. omega arith }))
        (test_23 (stored_in s q) (width_of t q) (capacity_of t q) m)

    by_test : ByChannel (answer_number (answer_of (moved_of t s g o a posts word))) ↔ (Accepted (channel_answer t s q m) → ⊥)
    by_test =
        subst (λ (x : Moved). ByChannel (answer_number (answer_of x)) ↔ (Accepted (channel_answer t s q m) → ⊥)) (sym (message_moves m q asked speaks))
        (closed (channel_answer t s q m) g s (message_step t s g a (locations_of posts) word q m)
        (test_answers (stored_of (queue_part s q)) (width_of t q) m (capacity_of t q))
        (message_answers (locations_of posts) q m))

    -- The answer is one of these exactly when the channel does not take the message.
    pub refused_by_channel : ByChannel (answer_number (answer_of (moved_of t s g o a posts word))) ↔ (ChannelTakes t s q m → ⊥)
    refused_by_channel = through by_test (not_either (channel_takes t s q m))

  plain_not : ByChannel (answer_number (answer_of (plain_step t s g a (locations_of posts) word))) → ⊥
  plain_not b = not_graph b (answer_of (plain_step t s g a (locations_of posts) word)) (plain_answers (locations_of posts)) refl

  -- No other step answers one of these.
  pub channel_asked : ByChannel (answer_number (answer_of (moved_of t s g o a posts word)))
      → Asked t g o posts × ((m : Message) × (q : ℕ) × Speaks t g a m q)
  unfolding moved_of
  channel_asked =
      let P : Moved → Type 0
      = λ x. ByChannel (answer_number (answer_of x)) → Asked t g o posts × ((m : Message) × (q : ℕ) × Speaks t g a m q) in
      rung P (ltb g (graph_count t)) (refused_step 17 g s) _ (λ b. let low = b.low in absurd (omega arith))
      (λ k. rung P (eqb o g) (refused_step 18 g s) _ (λ b. let low = b.low in absurd (omega arith))
      (λ e. rung P (all_below (length posts) (own_post posts g)) (refused_step 19 g s) _ (λ b. let low = b.low in absurd (omega arith))
      (λ f b. (
        asked_so t g o posts (ltb-true _ _ k) (eqb-true _ _ e) f,
        known (ltb a (action_count (graph_part t g))) refl b,
      ))))
    where
      spoken : a < action_count (graph_part t g) → (c : Communication) → communication_of t g a ≡ c
          → ByChannel (answer_number (answer_of (step_as t s g a (locations_of posts) word c)))
          → (m : Message) × (q : ℕ) × Speaks t g a m q
      spoken l Plain e b = absurd (plain_not b)
      spoken l (On m q) e b = (m, q.0, record { action = l; word = e })

      known : (b : Bool) → ltb a (action_count (graph_part t g)) ≡ b
          → ByChannel (answer_number (answer_of (step_as t s g a (locations_of posts) word (cond b (communication_of t g a) Plain))))
          → (m : Message) × (q : ℕ) × Speaks t g a m q
      known true e b = spoken (ltb-true _ _ e) (communication_of t g a) refl b
      known false e b = absurd (plain_not b)

  -- ---- a badly formed table or state
  -- `transition` answers 32 exactly when table and state do not fit.
  pub refused_32 : Answers 32 (answer_of (transition_of t s g o a posts word)) ↔ (system_fits t s ≡ false)
  unfolding transition_of moved_of
  refused_32 =
      rung_here (Says 32) (system_fits t s) (refused_step 32 g s) _ refl
      (rung_none (Says 32) _ (refused_step 17 g s) _ (λ e. omega arith)
      (rung_none (Says 32) _ (refused_step 18 g s) _ (λ e. omega arith)
      (rung_none (Says 32) _ (refused_step 19 g s) _ (λ e. omega arith)
      (λ e. ⊎_elim (λ (l : answer_number (answer_of (step_as t s g a (locations_of posts) word (spoken_by t g a))) ≤ 15). omega arith)
      (λ x. omega (arith, x.1)) (inside (locations_of posts) (spoken_by t g a))))))

  -- Where they fit, `transition` is the inner step, of which the above is said.
  pub transition_moves : system_fits t s ≡ true → transition_of t s g o a posts word ≡ moved_of t s g o a posts word
  unfolding transition_of
  transition_moves f = sym (passed (refused_step 32 g s) f refl)

-- ---- queues that are always empty
module _ {t s : List ℕ} (sound : SystemSound t) (h : StateSound t s) (q : ℕ) (known : q < channel_count t) where
  -- A sink has nothing stored, so a receive from it always answers 21.
  pub sink_empty : capacity_of t q ≡ Sink → stored_in s q ≡ 0
  sink_empty e =
      let low : stored_of (queue_part s q) ≤ ceiling (width_of t q) (capacity_of t q) = (h.queue q known).low in
      let none : ceiling (width_of t q) (capacity_of t q) ≡ 0 = ap (ceiling (width_of t q)) e ∙ sink_ceiling (width_of t q) in
      let same : stored_in s q ≡ stored_of (queue_part s q) = queue_length (queue_part s q) in
      omega arith

  -- Nor has a channel whose messages have no values.
  pub narrow_empty : width_of t q ≡ 0 → stored_in s q ≡ 0
  narrow_empty e =
      let low : stored_of (queue_part s q) ≤ ceiling (width_of t q) (capacity_of t q) = (h.queue q known).low in
      let none : ceiling (width_of t q) (capacity_of t q) ≡ 0 = no_slots (width_of t q) (capacity_of t q) (slots_width (width_of t q) ∙ e) in
      let same : stored_in s q ≡ stored_of (queue_part s q) = queue_length (queue_part s q) in
      omega arith

  module _ (g o a : ℕ) (posts : List ℕ) (word : ℕ) (asked : Asked t g o posts) (speaks : Speaks t g a Receive q) where
    -- So a receive from a sink answers 21, always.
    pub sink_refuses : capacity_of t q ≡ Sink → Answers 21 (answer_of (moved_of t s g o a posts word))
    sink_refuses e = (refused_21 t s g o a posts word Receive q asked speaks).1 (refl, sink_empty e)

    pub narrow_refuses : width_of t q ≡ 0 → Answers 21 (answer_of (moved_of t s g o a posts word))
    narrow_refuses e = (refused_21 t s g o a posts word Receive q asked speaks).1 (refl, narrow_empty e)

  -- A queue without a bound in which nothing is stored takes a send, however much went through it before.
  pub emptied_takes : capacity_of t q ≡ Unbounded → stored_in s q ≡ 0 → ChannelTakes t s q Send
  emptied_takes u e =
      let few = (sound.channel q known).width in
      inr (inl (record { unbounded = u; room = omega (arith, slots_width (width_of t q)) }))
