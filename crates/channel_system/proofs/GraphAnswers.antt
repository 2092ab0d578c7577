-- What a call of one graph answers, as a ladder of tests; and which numbers: at most 15, or 26.
use Rattle.std.specs.Prelude.{⊤}
use Prim.Native.Nat.{ℕ, zero, suc, ◌<◌, ◌≤◌}
use mathlib.Core.Path.{◌≡◌, refl, sym, ap, ◌∙◌}
use mathlib.Core.Bool.{Bool, true, false}
use mathlib.Core.List.{List}
use mathlib.Core.Logic.{◌↔◌, ◌⊎◌, inl, inr}
use native.Mathlib.Omega.{arith}
use borrow.Author.Tests.{eqb-true, eq-eqb, ne_eqb, ltb-true, ltb-false, le-ltb}
use lib.Dec.{eqb, ltb}
use lib.ListN.{length}
use Rattle.laws.specs.Ladder.{unless}
use Rattle.laws.specs.Below.{all_below}
use Rattle.laws.proofs.Ladder.{rung, passed}
use Rattle.laws.proofs.BelowLaws.{all_at, all_from, all_fails}
use Rattle.laws.proofs.Tests.{never}
use Rattle.grammar.specs.declared.values.Slot.{Slot}
use Rattle.std.specs.Prelude.{Option, Some, None}
use Rattle.grammar.specs.declared.values.Val.{Val}
use Rattle.graph_tables.specs.Answers.{Answer, admitted, answer_number}
use Rattle.graph_tables.specs.Sizes.{plain_kind}
use Rattle.graph_tables.specs.Words.{action_count, action_kind, effect_count, effect_items, epsilon}
use Rattle.graph_tables.specs.Sound.{Sound}
use Rattle.graph_tables.specs.Messages.{is_send, is_receive}
use Rattle.graph_tables.specs.declared.handed.Message.{Message}
use Rattle.graph_checks.specs.Checks.{refused_by}
use Rattle.run_steps.specs.Steps.{ready_of, clocks_after, effected_of, post_known}
use Rattle.run_steps.specs.Messages.{voiced, spoken_below, unsaid, spoken_of}
use Rattle.run_steps.specs.declared.inner.messages.Speech.{Speech}
use Rattle.run_steps.proofs.StepLaws.{post_known_lem}
use Rattle.run_steps.proofs.MessageLaws.{next_runs, spoken_fit}
use Rattle.program_graph.specs.Facts.{Valued}
use Rattle.program_graph.specs.Running.{refused, ready_still, autonomous_of, plain_of, acted_of, step_of}
use Rattle.program_graph.specs.Messaging.{refused_send, said_of, sent_of, heard_of, received_of}
use Rattle.program_graph.specs.declared.record.ProgramGraphRun.{ProgramGraphRun}
use Rattle.program_graph.specs.Outcomes.{RunOutcome, Sent}
use Rattle.program_graph.proofs.RunLaws.{either_way, left_over}
use Rattle.program_graph.proofs.SaidLaws.{turn}
use Rattle.program_graph.proofs.SpokenLaws.{MessageOf, send_is, receive_is, message_fits_lem}
use Rattle.channel_system.specs.Taken.{Posted, Lost, AllSaid}
use Rattle.channel_system.proofs.RungLaws.{all_missing}

abbrev pub OfGraph : Answer ⊤ → Type 0
OfGraph d = (answer_number d ≤ 15) ⊎ (answer_number d ≡ 26)

module _ (t : List ℕ) (run : ProgramGraphRun) (a : ℕ) (posts : List ℕ) where
  pub step_answers : (word : ℕ) → OfGraph (step_of t run a posts word).answer
  unfolding step_of autonomous_of acted_of plain_of
  step_answers word =
      let P : RunOutcome → Type 0 = λ s. OfGraph s.answer in
      rung P _ (refused 7 run) _ (inl (omega arith))
      (λ e. rung P _ (refused 3 run) _ (inl (omega arith))
      (λ e. either_way P (eqb a epsilon) _ _
      (λ e. rung P _ (refused 8 run) _ (inl (omega arith)) (λ e. inl (omega arith)))
      (λ e. rung P _ (refused 1 run) _ (inl (omega arith))
      (λ e. rung P _ (refused 13 run) _ (inl (omega arith))
      (λ e. rung P _ (refused 8 run) _ (inl (omega arith))
      (λ e. rung P _ (refused 26 run) _ (inr refl) (λ e. inl (omega arith))))))))

  pub send_answers : (word : ℕ) → OfGraph (sent_of t run a posts word).answer
  unfolding sent_of said_of
  send_answers word =
      let P : Sent → Type 0 = λ s. OfGraph s.answer in
      rung P _ (refused_send 14 run) _ (inl (omega arith))
      (λ e. rung P _ (refused_send 7 run) _ (inl (omega arith))
      (λ e. rung P _ (refused_send 8 run) _ (inl (omega arith))
      (λ e. rung P _ (refused_send 14 run) _ (inl (omega arith))
      (λ e. rung P _ (refused_send 26 run) _ (inr refl) (λ e. inl (omega arith))))))

  pub receive_answers : (m : Message) → OfGraph (received_of t run a posts m).answer
  unfolding received_of heard_of
  receive_answers m =
      let P : RunOutcome → Type 0 = λ s. OfGraph s.answer in
      rung P _ (refused 15 run) _ (inl (omega arith))
      (λ e. rung P _ (refused 7 run) _ (inl (omega arith))
      (λ e. rung P _ (refused 8 run) _ (inl (omega arith))
      (λ e. rung P _ (refused 15 run) _ (inl (omega arith))
      (λ e. rung P _ (refused 5 run) _ (inl (omega arith)) (λ e. inl (omega arith))))))

-- ---- the answer alone
of_rung : {A : Type 0} (f : A → Answer ⊤) (b : Bool) (x rest : A) → f (unless b x rest) ≡ unless b (f x) (f rest)
unfolding unless
of_rung f true x rest = refl
of_rung f false x rest = refl

-- a rung whose rest is this, and one that is passed
next : {A : Type 0} (f : A → Answer ⊤) (b : Bool) (x rest : A) {d : Answer ⊤} → f rest ≡ d → f (unless b x rest) ≡ unless b (f x) d
next f b x rest e = of_rung f b x rest ∙ ap (λ (r : Answer ⊤). unless b (f x) r) e

module _ (t : List ℕ) (run : ProgramGraphRun) (a : ℕ) (posts : List ℕ) where
  -- a plain step: 7, 3, 1, 13, 8, 26
  abbrev pub plain_ladder : ℕ → Answer ⊤
  plain_ladder word =
      unless (eqb (length posts) run.processes) (refused_by 7)
      (unless (all_below (length posts) (post_known t posts)) (refused_by 3)
      (unless (ltb a (action_count t)) (refused_by 1)
      (unless (eqb (action_kind t a) plain_kind) (refused_by 13)
      (unless (ready_of t run.vars run.times (clocks_after t a run.times) run.places run.processes a posts) (refused_by 8)
      (unless (effected_of t a run.vars word).fits (refused_by 26) admitted)))))

  pub plain_is : (word : ℕ) → (a ≡ epsilon → ⊥) → (step_of t run a posts word).answer ≡ plain_ladder word
  unfolding step_of acted_of plain_of
  plain_is word named =
      let f : RunOutcome → (Answer ⊤) = λ s. s.answer in
      next f _ (refused 7 run) _
      (next f _ (refused 3 run) _
      (ap f (sym (left_over (autonomous_of t run posts) (ne_eqb a epsilon named) refl))
      ∙ next f _ (refused 1 run) _
      (next f _ (refused 13 run) _
      (next f _ (refused 8 run) _ (of_rung f _ (refused 26 run) _)))))

  -- one by EPSILON: 7, 3, 8
  abbrev pub autonomous_ladder : Answer ⊤
  autonomous_ladder =
      unless (eqb (length posts) run.processes) (refused_by 7)
      (unless (all_below (length posts) (post_known t posts)) (refused_by 3)
      (unless (ready_still t run epsilon posts) (refused_by 8) admitted))

  pub autonomous_is : (word : ℕ) → (step_of t run epsilon posts word).answer ≡ autonomous_ladder
  unfolding step_of autonomous_of
  autonomous_is word =
      let f : RunOutcome → (Answer ⊤) = λ s. s.answer in
      next f _ (refused 7 run) _ (next f _ (refused 3 run) _ (of_rung f _ (refused 8 run) _))

  -- a message: 7, 8, and 26 unless it is said
  abbrev pub message_ladder : Bool → Answer ⊤
  message_ladder said =
      unless (eqb (length posts) run.processes) (refused_by 7)
      (unless (ready_still t run a posts) (refused_by 8)
      (unless said (refused_by 26) admitted))

  module _ (sound : Sound t) (known : a < action_count t) where
    pub send_ladder : (word : ℕ) → is_send t a ≡ true
        → (sent_of t run a posts word).answer ≡ message_ladder (spoken_of t a run.vars word).fits
    unfolding said_of
    send_ladder word send =
        let f : Sent → (Answer ⊤) = λ s. s.answer in
        ap f (send_is sound run a posts known word send)
        ∙ next f _ (refused_send 7 run) _ (next f _ (refused_send 8 run) _ (of_rung f _ (refused_send 26 run) _))

    pub receive_ladder : (m : Message) → is_receive t a ≡ true → MessageOf t a m → (received_of t run a posts m).answer ≡ message_ladder true
    unfolding heard_of
    receive_ladder m receive fits =
        let f : RunOutcome → (Answer ⊤) = λ s. s.answer in
        ap f (receive_is sound run a posts known m receive)
        ∙ next f _ (refused 7 run) _
        (next f _ (refused 8 run) _
        (ap f (sym (passed (refused 5 run) (message_fits_lem sound a m known receive fits) refl))
        ∙ passed (refused_by 26) refl refl))

-- ---- what the tests say
module _ (t : List ℕ) (a : ℕ) (vars : List Slot) (s : Speech) where
  voiced_from : (e : Option Val) (n rest : ℕ) (x : Speech) → (voiced x n e rest).fits ≡ true → Valued e
  voiced_from (Some x) n rest b h = (x, refl)
  voiced_from None n rest b h = never h

  voiced_so : (e : Option Val) (n rest : ℕ) (x : Speech) → Valued e → (voiced x n e rest).fits ≡ x.fits
  voiced_so (Some x) n rest b k = refl
  voiced_so None n rest b k = let z : ◌≡◌ {A = ℕ} 0 1 = cc k.1 in absurd (omega arith)

  -- what is left of the word after an expression
  abbrev rest_at : ℕ → ℕ
  rest_at n = (turn t a vars s n).rest

  -- an expression is evaluated where those before it had a value
  speaks : (n : ℕ) → (spoken_below t a vars s n).fits ≡ true
      → (spoken_below t a vars s (suc n)).fits
      ≡ (voiced (spoken_below t a vars s n) n (turn t a vars s n).value (rest_at n)).fits
  unfolding spoken_below
  speaks n h = ap (λ (r : Speech). r.fits) (next_runs vars (spoken_below t a vars s n) n (effect_items t a n) h)

  said_below : (n : ℕ) → (spoken_below t a vars s n).fits ≡ true → (e : ℕ) → e < n → Valued (turn t a vars s e).value
  said_below n h e l =
      voiced_from (turn t a vars s e).value e (rest_at e) (spoken_below t a vars s e)
      (sym (speaks e (spoken_fit t a vars s n e (omega arith) h)) ∙ spoken_fit t a vars s n (suc e) l h)

  all_said : (n : ℕ) → s.fits ≡ true → ((e : ℕ) → e < n → Valued (turn t a vars s e).value) → (spoken_below t a vars s n).fits ≡ true
  unfolding spoken_below
  all_said zero f h = f
  all_said (suc n) f h =
      let k = all_said n f (λ e l. h e (omega arith)) in
      speaks n k ∙ voiced_so (turn t a vars s n).value n (rest_at n) (spoken_below t a vars s n) (h n (omega arith)) ∙ k

-- the message of a send fits exactly when each of its expressions has a value in its turn
pub said_exactly : (t : List ℕ) (a : ℕ) (vars : List Slot) (word : ℕ) → ((spoken_of t a vars word).fits ≡ true) ↔ AllSaid t a vars word
said_exactly t a vars word = (
  λ h. said_below t a vars (unsaid word) (effect_count t a) h,
  λ h. all_said t a vars (unsaid word) (effect_count t a) refl h,
)

-- posts are known, as a test and in full
pub posted : (t : List ℕ) (run : ProgramGraphRun) (posts : List ℕ)
    → ((eqb (length posts) run.processes ≡ true) × (all_below (length posts) (post_known t posts) ≡ true)) ↔ Posted t run posts
unfolding post_known
posted t run posts = (
  λ h. record { one_each = eqb-true _ _ h.0; known = λ p l. ltb-true _ _ (all_at (post_known t posts) (length posts) p h.1 l) },
  λ q. (eq-eqb _ _ q.one_each, all_from (post_known t posts) (length posts) (λ p l. post_known_lem t posts p (q.known p l))),
)

pub lost : (t posts : List ℕ) → (all_below (length posts) (post_known t posts) ≡ false) ↔ Lost t posts
unfolding post_known
lost t posts = (
  λ h.
      let x = all_missing (post_known t posts) (length posts) h in
      record { post = x.0; handed = x.1; unknown = ltb-false _ _ x.2 },
  λ l. all_fails (post_known t posts) (length posts) l.post l.handed (le-ltb _ _ l.unknown),
)
