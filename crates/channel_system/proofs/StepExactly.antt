-- When a step of a system is accepted, and when it answers each number of its graph's: exactly when.
use Rattle.std.specs.Prelude.{Ok, Err, ⊤}
use Prim.Native.Nat.{ℕ, ◌<◌, ◌≤◌}
use mathlib.Core.Path.{◌≡◌, refl, sym, ap, subst, ◌∙◌}
use mathlib.Core.Bool.{Bool, true, false}
use mathlib.Core.List.{List}
use mathlib.Core.Logic.{◌↔◌, ◌⊎◌, inl, inr, ⊎_elim}
use native.Mathlib.Omega.{arith}
use borrow.Author.Tests.{eqb-true, eq-eqb, ltb-true, ltb-false, lt-ltb, le-ltb}
use lib.Dec.{eqb, ltb}
use lib.ListN.{length}
use Rattle.laws.specs.Ladder.{unless}
use Rattle.laws.specs.Below.{all_below}
use Rattle.laws.proofs.Ladder.{rung}
use Rattle.laws.proofs.Tests.{never}
use Rattle.graph_tables.specs.Answers.{Answer, admitted, answer_number}
use Rattle.graph_tables.specs.Sizes.{plain_kind}
use Rattle.graph_tables.specs.Words.{action_count, action_kind, epsilon}
use Rattle.graph_tables.specs.Messages.{message_count}
use Rattle.graph_tables.proofs.MessageLaws.{plain_kind_lem}
use Rattle.graph_checks.specs.Checks.{refused_by}
use Rattle.run_steps.specs.Steps.{ready_of, clocks_after, effected_of, post_known}
use Rattle.run_steps.specs.Messages.{spoken_of}
use Rattle.program_graph.specs.Facts.{Accepted, Not}
use Rattle.program_graph.specs.declared.record.ProgramGraphRun.{ProgramGraphRun}
use Rattle.program_graph.proofs.RunLaws.{chosen, left_over}
use Rattle.program_graph.proofs.AnswerLaws.{accepted_ok, not_ok}
use Rattle.program_graph.proofs.RunReady.{all_pass, through}
use Rattle.program_graph.proofs.RunExactly.{effects_valued}
use Rattle.program_graph.proofs.SpokenLaws.{MessageOf}
use Rattle.queues.specs.Queues.{stored_of}
use Rattle.system_tables.specs.Words.{channel_count, width_of, capacity_of, graph_part, communication_of}
use Rattle.system_tables.specs.Sound.{SystemSound, ProbeSound, MessageSound}
use Rattle.system_tables.specs.declared.ids.Message.{Message}
use Rattle.system_tables.specs.declared.ids.Message.TheVariants.{Send, Receive, ProbeEmptyQueue, ProbeFullQueue}
use Rattle.system_tables.specs.declared.ids.Communication.TheVariants.{Plain}
use Rattle.system_tables.proofs.CommunicationLaws.{Says, plain_says, message_says}
use Rattle.system_state.specs.Words.{queue_part}
use Rattle.system_state.specs.Fits.{StateSound}
use Rattle.system_state.proofs.ChannelLaws.{kept_said, first_kept, one_message}
use Rattle.channel_system.specs.Steps.{system_fits, locations_of, run_of, Moved, refused_step, plain_step, send_step, receive_step}
use Rattle.channel_system.specs.Steps.{probe_step, message_step, open_if, channel_answer, step_as, spoken_by, moved_of, transition_of}
use Rattle.channel_system.specs.Steps.{oldest_in}
use Rattle.channel_system.specs.Facts.{Speaks}
use Rattle.channel_system.specs.Asked.{Answers, answer_of, Asked, ChannelTakes, ByChannel}
use Rattle.channel_system.specs.Taken.{Posted, Lost, PlainPosted, Handed, PlainHanded, Ready, PlainReady, AllEffected, Uttered}
use Rattle.channel_system.proofs.RungLaws.{rung_on, rung_here, rung_last, rung_none, both_so, where_so, not_so}
use Rattle.channel_system.proofs.GraphAnswers.{plain_ladder, plain_is, autonomous_ladder, autonomous_is, message_ladder, send_ladder}
use Rattle.channel_system.proofs.GraphAnswers.{receive_ladder, said_exactly, posted, lost}
use Rattle.channel_system.proofs.TestLaws.{receive_21}
use Rattle.channel_system.proofs.ChannelExactly.{OfChannel, test_answers, channel_takes, asked_so, asked_moves, message_moves}

-- an answer is ok exactly when its number is 0
ok_so : (d : Answer ⊤) → Accepted d ↔ Answers 0 d
ok_so d = (λ o. o.number, λ e. record { number = e })

same : {A : Type 0} → A ↔ A
same = (λ a. a, λ a. a)

too_far : {n p k : ℕ} → n ≤ p → k ≡ p → k < n → ⊥
too_far l e h = omega arith

-- ---- the ladders of a graph's calls
module _ (t : List ℕ) (run : ProgramGraphRun) (a : ℕ) (posts : List ℕ) where
  -- what is asked before the guards
  plain_posted : {X : Type 0}
      → ((eqb (length posts) run.processes ≡ true) × ((all_below (length posts) (post_known t posts) ≡ true)
      × ((ltb a (action_count t) ≡ true) × ((eqb (action_kind t a) plain_kind ≡ true) × X))))
      ↔ (PlainPosted t run a posts × X)
  plain_posted = (
    λ p. (
      record {
        step = (posted t run posts).0 (p.0, p.1.0);
        action = ltb-true _ _ p.1.1.0;
        plain = eqb-true _ _ p.1.1.1.0;
      },
      p.1.1.1.1,
    ),
    λ p.
        let q = (posted t run posts).1 p.0.step in
        (q.0, (q.1, (lt-ltb _ _ p.0.action, (eq-eqb _ _ p.0.plain, p.1)))),
  )

  only_posted : {X : Type 0}
      → ((eqb (length posts) run.processes ≡ true) × ((all_below (length posts) (post_known t posts) ≡ true) × X))
      ↔ (Posted t run posts × X)
  only_posted = (
    λ p. ((posted t run posts).0 (p.0, p.1.0), p.1.1),
    λ p. let q = (posted t run posts).1 p.0 in (q.0, (q.1, p.1)),
  )

  -- a number that is none of those before the guards
  module _ (n : ℕ) (not-7 : 7 ≡ n → ⊥) where
    plain_before : {Q : Type 0} (d : Answer ⊤) → (3 ≡ n → ⊥) → (1 ≡ n → ⊥) → (13 ≡ n → ⊥) → Answers n d ↔ Q
        → Answers n
        (unless (eqb (length posts) run.processes) (refused_by 7)
        (unless (all_below (length posts) (post_known t posts)) (refused_by 3)
        (unless (ltb a (action_count t)) (refused_by 1) (unless (eqb (action_kind t a) plain_kind) (refused_by 13) d))))
        ↔ (PlainPosted t run a posts × Q)
    plain_before d x y z f =
        through
        (rung_on (Answers n) _ (refused_by 7) _ not-7
        (rung_on (Answers n) _ (refused_by 3) _ x
        (rung_on (Answers n) _ (refused_by 1) _ y (rung_on (Answers n) _ (refused_by 13) _ z f))))
        plain_posted

    still_before : {Q : Type 0} (d : Answer ⊤) → (3 ≡ n → ⊥) → Answers n d ↔ Q
        → Answers n
        (unless (eqb (length posts) run.processes) (refused_by 7)
        (unless (all_below (length posts) (post_known t posts)) (refused_by 3) d))
        ↔ (Posted t run posts × Q)
    still_before d x f =
        through (rung_on (Answers n) _ (refused_by 7) _ not-7 (rung_on (Answers n) _ (refused_by 3) _ x f)) only_posted

-- ---- plain steps
module _ (t s : List ℕ) (g o a : ℕ) (posts : List ℕ) (word : ℕ) (asked : Asked t g o posts) where
  abbrev G : List ℕ
  G = graph_part t g

  abbrev run : ProgramGraphRun
  run = run_of s g

  abbrev places : List ℕ
  places = locations_of posts

  module _ (named : a ≡ epsilon → ⊥) (plain : spoken_by t g a ≡ Plain) where
    plain_answer : answer_of (moved_of t s g o a posts word) ≡ plain_ladder G run a places word
    unfolding plain_step
    plain_answer =
        ap answer_of (asked_moves t s g o a posts word asked ∙ ap (step_as t s g a places word) plain) ∙ plain_is G run a places word named

    ready_so : (ready_of G run.vars run.times (clocks_after G a run.times) run.places run.processes a places ≡ true)
        ↔ PlainReady t s g a posts
    ready_so = all_pass G run places a (clocks_after G a run.times)

    effects_so : ((effected_of G a run.vars word).fits ≡ true) ↔ AllEffected t s g a word
    effects_so = effects_valued G a run.vars word

    -- A plain step is accepted exactly when there is a post for each process, each process has a transition that passes with the clocks
    -- that the action resets at 0, and each effect has a value in its turn.
    pub plain_accepted : Accepted (answer_of (moved_of t s g o a posts word))
        ↔ (PlainHanded t s g a posts × (PlainReady t s g a posts × AllEffected t s g a word))
    plain_accepted =
        through (ok_so _)
        (subst (λ (d : Answer ⊤). Answers 0 d ↔ (PlainHanded t s g a posts × (PlainReady t s g a posts × AllEffected t s g a word)))
        (sym plain_answer)
        (plain_before G run a places 0 (λ e. omega arith) _ (λ e. omega arith) (λ e. omega arith) (λ e. omega arith)
        (through
        (rung_on (Answers 0) _ (refused_by 8) _ (λ e. omega arith) (rung_last (Answers 0) _ (refused_by 26) _ (λ e. omega arith) refl))
        (both_so ready_so effects_so))))

    -- It answers 26 exactly when some effect has none.
    pub plain_26 : Answers 26 (answer_of (moved_of t s g o a posts word))
        ↔ (PlainHanded t s g a posts × (PlainReady t s g a posts × (AllEffected t s g a word → ⊥)))
    plain_26 =
        subst (λ (d : Answer ⊤). Answers 26 d ↔ (PlainHanded t s g a posts × (PlainReady t s g a posts × (AllEffected t s g a word → ⊥))))
        (sym plain_answer)
        (plain_before G run a places 26 (λ e. omega arith) _ (λ e. omega arith) (λ e. omega arith) (λ e. omega arith)
        (through
        (rung_on (Answers 26) _ (refused_by 8) _ (λ e. omega arith) (rung_here (Answers 26) _ (refused_by 26) _ refl (λ e. omega arith)))
        (both_so ready_so (not_so _ effects_so))))

    -- It answers 8 exactly when some process has no such transition.
    pub plain_8 : Answers 8 (answer_of (moved_of t s g o a posts word))
        ↔ (PlainHanded t s g a posts × (PlainReady t s g a posts → ⊥))
    plain_8 =
        subst (λ (d : Answer ⊤). Answers 8 d ↔ (PlainHanded t s g a posts × (PlainReady t s g a posts → ⊥))) (sym plain_answer)
        (plain_before G run a places 8 (λ e. omega arith) _ (λ e. omega arith) (λ e. omega arith) (λ e. omega arith)
        (through
        (rung_here (Answers 8) _ (refused_by 8) _ refl
        (rung_none (Answers 8) _ (refused_by 26) _ (λ e. omega arith) (λ e. omega arith)))
        (not_so _ ready_so)))

    -- It gets past its guards, to be accepted or to answer 26, exactly when there is a post for each process, and each has such a
    -- transition.
    pub plain_past_guards : (Accepted (answer_of (moved_of t s g o a posts word)) ⊎ Answers 26 (answer_of (moved_of t s g o a posts word)))
        ↔ (PlainHanded t s g a posts × PlainReady t s g a posts)
    plain_past_guards = (
      ⊎_elim (λ k. let p = plain_accepted.0 k in (p.0, p.1.0)) (λ k. let p = plain_26.0 k in (p.0, p.1.0)),
      λ p. by p (effected_of G a run.vars word).fits refl,
    )
      where
        by : PlainHanded t s g a posts × PlainReady t s g a posts → (b : Bool) → (effected_of G a run.vars word).fits ≡ b
            → Accepted (answer_of (moved_of t s g o a posts word)) ⊎ Answers 26 (answer_of (moved_of t s g o a posts word))
        by p true e = inl (plain_accepted.1 (p.0, (p.1, effects_so.0 e)))
        by p false e = inr (plain_26.1 (p.0, (p.1, λ v. never (sym e ∙ effects_so.1 v))))

    -- ---- before its guards
    one_post_each : (eqb (length places) run.processes ≡ true) ↔ (length places ≡ run.processes)
    one_post_each = (λ e. eqb-true _ _ e, λ e. eq-eqb _ _ e)

    -- It answers 7 exactly when there is not a post for each process.
    pub plain_7 : Answers 7 (answer_of (moved_of t s g o a posts word)) ↔ (length (locations_of posts) ≡ (run_of s g).processes → ⊥)
    plain_7 =
        subst (λ (d : Answer ⊤). Answers 7 d ↔ (length places ≡ run.processes → ⊥)) (sym plain_answer)
        (through
        (rung_here (Answers 7) _ (refused_by 7) _ refl
        (rung_none (Answers 7) _ (refused_by 3) _ (λ e. omega arith)
        (rung_none (Answers 7) _ (refused_by 1) _ (λ e. omega arith)
        (rung_none (Answers 7) _ (refused_by 13) _ (λ e. omega arith)
        (rung_none (Answers 7) _ (refused_by 8) _ (λ e. omega arith)
        (rung_none (Answers 7) _ (refused_by 26) _ (λ e. omega arith) (λ e. omega arith)))))))
        (not_so _ one_post_each))

    -- It answers 3 exactly when there is, and some post is no location of the graph.
    pub plain_3 : Answers 3 (answer_of (moved_of t s g o a posts word))
        ↔ ((length (locations_of posts) ≡ (run_of s g).processes) × Lost (graph_part t g) (locations_of posts))
    plain_3 =
        subst (λ (d : Answer ⊤). Answers 3 d ↔ ((length places ≡ run.processes) × Lost G places)) (sym plain_answer)
        (through
        (rung_on (Answers 3) _ (refused_by 7) _ (λ e. omega arith)
        (rung_here (Answers 3) _ (refused_by 3) _ refl
        (rung_none (Answers 3) _ (refused_by 1) _ (λ e. omega arith)
        (rung_none (Answers 3) _ (refused_by 13) _ (λ e. omega arith)
        (rung_none (Answers 3) _ (refused_by 8) _ (λ e. omega arith)
        (rung_none (Answers 3) _ (refused_by 26) _ (λ e. omega arith) (λ e. omega arith)))))))
        (both_so one_post_each (lost G places)))

    -- It answers 1 exactly when there is a location for each process, and the graph has no such action.
    pub plain_1 : Answers 1 (answer_of (moved_of t s g o a posts word)) ↔ (Handed t s g posts × (action_count (graph_part t g) ≤ a))
    plain_1 =
        subst (λ (d : Answer ⊤). Answers 1 d ↔ (Handed t s g posts × (action_count G ≤ a))) (sym plain_answer)
        (still_before G run a places 1 (λ e. omega arith) _ (λ e. omega arith)
        (through
        (rung_here (Answers 1) _ (refused_by 1) _ refl
        (rung_none (Answers 1) _ (refused_by 13) _ (λ e. omega arith)
        (rung_none (Answers 1) _ (refused_by 8) _ (λ e. omega arith)
        (rung_none (Answers 1) _ (refused_by 26) _ (λ e. omega arith) (λ e. omega arith)))))
        (λ e. ltb-false _ _ e, λ l. le-ltb a (action_count G) l)))

    -- It never answers 13: an action that is on no channel is plain.
    pub plain_never_13 : SystemSound t → Not 13 (answer_of (moved_of t s g o a posts word))
    plain_never_13 sound e =
        let p = (still_before G run a places 13 (λ e. omega arith) _ (λ e. omega arith)
        (rung_on (Answers 13) (ltb a (action_count G)) (refused_by 1) _ (λ e. omega arith)
        (rung_here (Answers 13) (eqb (action_kind G a) plain_kind) (refused_by 13) _ refl
        (rung_none (Answers 13) _ (refused_by 8) _ (λ e. omega arith)
        (rung_none (Answers 13) _ (refused_by 26) admitted (λ e. omega arith) (λ e. omega arith)))))
        ).0 (subst (Answers 13) plain_answer e) in
        let l = ltb-true _ _ p.1.0 in
        let none : communication_of t g a ≡ Plain = chosen Plain p.1.0 refl ∙ plain in
        let kind = plain_kind_lem G a (plain_says (sound.communication g a asked.graph l) none) in
        never (sym p.1.1 ∙ eq-eqb _ _ kind)

  -- ---- messages
  module _ (m : Message) (q : ℕ) (speaks : Speaks t g a m q) (sound : SystemSound t) (h : StateSound t s) where
    says : (q < channel_count t) × Says t q G a m
    says = message_says (sound.communication g a asked.graph speaks.action) m (record { 0 = q }) speaks.word

    -- whether there is something to say, and it can be said
    abbrev said_test : Message → Bool
    said_test Send = (spoken_of G a run.vars word).fits
    said_test Receive = true
    said_test ProbeEmptyQueue = true
    said_test ProbeFullQueue = true

    said_so : (k : Message) → (said_test k ≡ true) ↔ Uttered k t s g a word
    said_so Send = said_exactly G a run.vars word
    said_so Receive = (λ e. tt, λ u. refl)
    said_so ProbeEmptyQueue = (λ e. tt, λ u. refl)
    said_so ProbeFullQueue = (λ e. tt, λ u. refl)

    -- a probe has nothing to say
    probe_said : ProbeSound G a → (spoken_of G a run.vars word).fits ≡ true
    unfolding message_count
    probe_said p = (said_exactly G a run.vars word).1 (λ e l. absurd (let none = p.none in omega arith))

    probe_answer : ProbeSound G a → (k : Message) → answer_of (probe_step t s g a places word q k) ≡ message_ladder G run a places true
    unfolding probe_step
    probe_answer p k =
        send_ladder G run a places (sound.graph g asked.graph) speaks.action word p.send
        ∙ ap (message_ladder G run a places) (probe_said p)

    -- what is received is of the action's kinds
    oldest_is : MessageSound t q G a → q < channel_count t → Accepted (channel_answer t s q Receive) → MessageOf G a (oldest_in t s q)
    oldest_is kinds known k =
        kept_said sound q known kinds
        (first_kept sound q known h
        (one_message sound q known h
        (λ none. let z = (receive_21 (stored_of (queue_part s q))).1 none in let y = k.number in absurd (omega arith))))

    message_answer : (k : Message) → Says t q G a k → Accepted (channel_answer t s q k)
        → answer_of (message_step t s g a places word q k) ≡ message_ladder G run a places (said_test k)
    unfolding send_step receive_step
    message_answer Send x k = send_ladder G run a places (sound.graph g asked.graph) speaks.action word x.0
    message_answer Receive x k =
        receive_ladder G run a places (sound.graph g asked.graph) speaks.action (oldest_in t s q) x.0
        (oldest_is x.1 says.0 k)
    message_answer ProbeEmptyQueue x k = probe_answer x ProbeEmptyQueue
    message_answer ProbeFullQueue x k = probe_answer x ProbeFullQueue

    -- a number that is not the channel's is the graph's, of an open channel
    open_then : (n : ℕ) (d : Answer ⊤) (rest : Moved) → (ByChannel n → ⊥) → OfChannel d
        → Answers n (answer_of (open_if d g s rest)) ↔ (Accepted d × Answers n (answer_of rest))
    open_then n (Ok _) rest f own = (λ e. (accepted_ok, e), λ p. p.1)
    open_then n (Err r) rest f own = (
      λ e. absurd (⊎_elim (λ k. not_ok k) (λ (b : ByChannel (answer_number {A = ⊤} (Err r))). f (subst ByChannel e b)) own),
      λ p. not_ok p.0,
    )

    message_ladder_lem : (n : ℕ) → (ByChannel n → ⊥)
        → Answers n (answer_of (moved_of t s g o a posts word))
        ↔ (Accepted (channel_answer t s q m) × Answers n (message_ladder G run a places (said_test m)))
    message_ladder_lem n f =
        subst (λ (x : Moved). Answers n (answer_of x) ↔ (Accepted (channel_answer t s q m) × Answers n (message_ladder G run a places (said_test m))))
        (sym (message_moves t s g o a posts word m q asked speaks))
        (through
        (open_then n (channel_answer t s q m) (message_step t s g a places word q m) f
        (test_answers (stored_of (queue_part s q)) (width_of t q) m (capacity_of t q)))
        (where_so (λ k. subst (λ (d : Answer ⊤). Answers n (answer_of (message_step t s g a places word q m)) ↔ Answers n d)
        (message_answer m says.1 k) same)))

    one_each_so : (eqb (length places) run.processes ≡ true) ↔ (length places ≡ run.processes)
    one_each_so = (λ e. eqb-true _ _ e, λ e. eq-eqb _ _ e)

    -- A communication is accepted exactly when its channel takes it, there is a post for each process, each process has a transition that
    -- passes on the clocks as they are, and, of a send, each expression has a value.
    pub message_accepted : Accepted (answer_of (moved_of t s g o a posts word))
        ↔ (ChannelTakes t s q m
        × ((length (locations_of posts) ≡ (run_of s g).processes) × (Ready t s g a posts × Uttered m t s g a word)))
    message_accepted =
        through (ok_so _)
        (through (message_ladder_lem 0 (λ b. let low = b.low in absurd (omega arith)))
        (both_so (channel_takes t s q m)
        (through
        (rung_on (Answers 0) _ (refused_by 7) _ (λ e. omega arith)
        (rung_on (Answers 0) _ (refused_by 8) _ (λ e. omega arith)
        (rung_last (Answers 0) (said_test m) (refused_by 26) admitted (λ e. omega arith) refl)))
        (both_so one_each_so (both_so (all_pass G run places a run.times) (said_so m))))))

    -- It answers 7 exactly when its channel takes it, and there is not a post for each process.
    pub message_7 : Answers 7 (answer_of (moved_of t s g o a posts word))
        ↔ (ChannelTakes t s q m × (length (locations_of posts) ≡ (run_of s g).processes → ⊥))
    message_7 =
        through (message_ladder_lem 7 (λ b. let low = b.low in absurd (omega arith)))
        (both_so (channel_takes t s q m)
        (through
        (rung_here (Answers 7) _ (refused_by 7) _ refl
        (rung_none (Answers 7) _ (refused_by 8) _ (λ e. omega arith)
        (rung_none (Answers 7) (said_test m) (refused_by 26) admitted (λ e. omega arith) (λ e. omega arith))))
        (not_so _ one_each_so)))

    -- It answers 8 exactly when there is, and some process has no such transition.
    pub message_8 : Answers 8 (answer_of (moved_of t s g o a posts word))
        ↔ (ChannelTakes t s q m × ((length (locations_of posts) ≡ (run_of s g).processes) × (Ready t s g a posts → ⊥)))
    message_8 =
        through (message_ladder_lem 8 (λ b. let low = b.low in absurd (omega arith)))
        (both_so (channel_takes t s q m)
        (through
        (rung_on (Answers 8) _ (refused_by 7) _ (λ e. omega arith)
        (rung_here (Answers 8) _ (refused_by 8) _ refl
        (rung_none (Answers 8) (said_test m) (refused_by 26) admitted (λ e. omega arith) (λ e. omega arith))))
        (both_so one_each_so (not_so _ (all_pass G run places a run.times)))))

    -- It answers 26 exactly when they have, and an expression of a send has no value; so of no other communication.
    pub message_26 : Answers 26 (answer_of (moved_of t s g o a posts word))
        ↔ (ChannelTakes t s q m
        × ((length (locations_of posts) ≡ (run_of s g).processes) × (Ready t s g a posts × (Uttered m t s g a word → ⊥))))
    message_26 =
        through (message_ladder_lem 26 (λ b. absurd (b.other refl)))
        (both_so (channel_takes t s q m)
        (through
        (rung_on (Answers 26) _ (refused_by 7) _ (λ e. omega arith)
        (rung_on (Answers 26) _ (refused_by 8) _ (λ e. omega arith)
        (rung_here (Answers 26) (said_test m) (refused_by 26) admitted refl (λ e. omega arith))))
        (both_so one_each_so (both_so (all_pass G run places a run.times) (not_so _ (said_so m))))))

    -- It gets past its guards, to be accepted or to answer 26, exactly when its channel takes it, there is a post for each process, and
    -- each process has such a transition.
    pub message_past_guards : (Accepted (answer_of (moved_of t s g o a posts word)) ⊎ Answers 26 (answer_of (moved_of t s g o a posts word)))
        ↔ (ChannelTakes t s q m × ((length (locations_of posts) ≡ (run_of s g).processes) × Ready t s g a posts))
    message_past_guards = (
      ⊎_elim (λ k. let p = message_accepted.0 k in (p.0, (p.1.0, p.1.1.0)))
          (λ k. let p = message_26.0 k in (p.0, (p.1.0, p.1.1.0))),
      λ p. by p (said_test m) refl,
    )
      where
        by : ChannelTakes t s q m × ((length (locations_of posts) ≡ (run_of s g).processes) × Ready t s g a posts)
            → (b : Bool) → said_test m ≡ b
            → Accepted (answer_of (moved_of t s g o a posts word)) ⊎ Answers 26 (answer_of (moved_of t s g o a posts word))
        by p true e = inl (message_accepted.1 (p.0, (p.1.0, (p.1.1, (said_so m).0 e))))
        by p false e = inr (message_26.1 (p.0, (p.1.0, (p.1.1, λ u. never (sym e ∙ (said_so m).1 u)))))

    -- A post that is no location of the graph has no such transition: so it answers 8 and not 3.
    pub unknown_post : Lost (graph_part t g) (locations_of posts) → length (locations_of posts) ≡ (run_of s g).processes → ChannelTakes t s q m
        → Answers 8 (answer_of (moved_of t s g o a posts word))
    unknown_post w e takes = message_8.1 (takes, (e, not_ready))
      where
        not_ready : Ready t s g a posts → ⊥
        not_ready f =
            let x = f w.post (subst (λ (n : ℕ). w.post < n) e w.handed) in
            too_far w.unknown x.1.to ((sound.graph g asked.graph).transition x.0 x.1.known).post

    -- It never answers another number below 20: no 3, 5, 13, 14 or 15.
    pub message_never : (n : ℕ) → (n ≡ 0 → ⊥) → (n ≡ 7 → ⊥) → (n ≡ 8 → ⊥) → n ≤ 19 → Not n (answer_of (moved_of t s g o a posts word))
    message_never n x y z l e =
        rung_none (Answers n) _ (refused_by 7) _ (λ e. y (sym e))
        (rung_none (Answers n) _ (refused_by 8) _ (λ e. z (sym e))
        (rung_none (Answers n) (said_test m) (refused_by 26) admitted (λ e. omega arith) (λ e. x (sym e))))
        ((message_ladder_lem n (λ b. let low = b.low in absurd (omega arith))).0 e).1

-- ---- the public call
module _ (t s : List ℕ) (g o a : ℕ) (posts : List ℕ) (word : ℕ) where
  -- `transition` is accepted exactly when table and state fit, the graph is there, action and posts are its own, and the step is accepted.
  pub accepted_asked : Accepted (answer_of (transition_of t s g o a posts word))
      ↔ ((system_fits t s ≡ true) × (Asked t g o posts × Accepted (answer_of (moved_of t s g o a posts word))))
  unfolding transition_of moved_of
  accepted_asked =
      rung_on P (system_fits t s) (refused_step 32 g s) (moved_of t s g o a posts word) not_ok (λ k. (moved k, k), λ p. p.1)
    where
      P : Moved → Type 0
      P x = Accepted (answer_of x)

      moved : Accepted (answer_of (moved_of t s g o a posts word)) → Asked t g o posts
      moved =
          let Q : Moved → Type 0 = λ x. P x → Asked t g o posts in
          rung Q _ (refused_step 17 g s) _ not_ok
          (λ k. rung Q _ (refused_step 18 g s) _ not_ok
          (λ e. rung Q _ (refused_step 19 g s) _ not_ok
          (λ f x. asked_so t g o posts (ltb-true _ _ k) (eqb-true _ _ e) f)))

-- ---- by EPSILON
module _ (t s : List ℕ) (g o : ℕ) (posts : List ℕ) (word : ℕ) (asked : Asked t g o posts) (sound : SystemSound t) where
  -- it is on no channel
  epsilon_plain : spoken_by t g epsilon ≡ Plain
  epsilon_plain =
      let few = (sound.graph g asked.graph).counts.actions in
      sym (left_over (communication_of t g epsilon) (le-ltb epsilon (action_count (graph_part t g)) (omega arith)) refl)

  autonomous_answer : answer_of (moved_of t s g o epsilon posts word)
      ≡ autonomous_ladder (graph_part t g) (run_of s g) epsilon (locations_of posts)
  unfolding plain_step
  autonomous_answer =
      ap answer_of (asked_moves t s g o epsilon posts word asked ∙ ap (step_as t s g epsilon (locations_of posts) word) epsilon_plain)
      ∙ autonomous_is (graph_part t g) (run_of s g) epsilon (locations_of posts) word

  -- A step by EPSILON is accepted exactly when there is a post for each process, and each has a transition that passes on the clocks as
  -- they are.
  pub autonomous_accepted : Accepted (answer_of (moved_of t s g o epsilon posts word)) ↔ (Handed t s g posts × Ready t s g epsilon posts)
  autonomous_accepted =
      through (ok_so _)
      (subst (λ (d : Answer ⊤). Answers 0 d ↔ (Handed t s g posts × Ready t s g epsilon posts)) (sym autonomous_answer)
      (still_before (graph_part t g) (run_of s g) epsilon (locations_of posts) 0 (λ e. omega arith) _ (λ e. omega arith)
      (through (rung_last (Answers 0) _ (refused_by 8) _ (λ e. omega arith) refl)
      (all_pass (graph_part t g) (run_of s g) (locations_of posts) epsilon (run_of s g).times))))

  autonomous_one_each : (eqb (length (locations_of posts)) (run_of s g).processes ≡ true)
      ↔ (length (locations_of posts) ≡ (run_of s g).processes)
  autonomous_one_each = (λ e. eqb-true _ _ e, λ e. eq-eqb _ _ e)

  -- It answers 7 exactly when there is not a post for each process.
  pub autonomous_7 : Answers 7 (answer_of (moved_of t s g o epsilon posts word)) ↔ (length (locations_of posts) ≡ (run_of s g).processes → ⊥)
  autonomous_7 =
      subst (λ (d : Answer ⊤). Answers 7 d ↔ (length (locations_of posts) ≡ (run_of s g).processes → ⊥)) (sym autonomous_answer)
      (through
      (rung_here (Answers 7) _ (refused_by 7) _ refl
      (rung_none (Answers 7) _ (refused_by 3) _ (λ e. omega arith)
      (rung_none (Answers 7) _ (refused_by 8) _ (λ e. omega arith) (λ e. omega arith))))
      (not_so _ autonomous_one_each))

  -- It answers 3 exactly when there is, and some post is no location of the graph.
  pub autonomous_3 : Answers 3 (answer_of (moved_of t s g o epsilon posts word))
      ↔ ((length (locations_of posts) ≡ (run_of s g).processes) × Lost (graph_part t g) (locations_of posts))
  autonomous_3 =
      subst (λ (d : Answer ⊤). Answers 3 d ↔ ((length (locations_of posts) ≡ (run_of s g).processes) × Lost (graph_part t g) (locations_of posts)))
      (sym autonomous_answer)
      (through
      (rung_on (Answers 3) _ (refused_by 7) _ (λ e. omega arith)
      (rung_here (Answers 3) _ (refused_by 3) _ refl
      (rung_none (Answers 3) _ (refused_by 8) _ (λ e. omega arith) (λ e. omega arith))))
      (both_so autonomous_one_each (lost (graph_part t g) (locations_of posts))))

  -- It answers 8 exactly when some process has none.
  pub autonomous_8 : Answers 8 (answer_of (moved_of t s g o epsilon posts word)) ↔ (Handed t s g posts × (Ready t s g epsilon posts → ⊥))
  autonomous_8 =
      subst (λ (d : Answer ⊤). Answers 8 d ↔ (Handed t s g posts × (Ready t s g epsilon posts → ⊥))) (sym autonomous_answer)
      (still_before (graph_part t g) (run_of s g) epsilon (locations_of posts) 8 (λ e. omega arith) _ (λ e. omega arith)
      (through (rung_here (Answers 8) _ (refused_by 8) _ refl (λ e. omega arith))
      (not_so _ (all_pass (graph_part t g) (run_of s g) (locations_of posts) epsilon (run_of s g).times))))
