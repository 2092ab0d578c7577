-- When a call on a run is accepted, and when it answers each of its last numbers: exactly when.
use Rattle.std.specs.Prelude.{⊤}
use Prim.Native.Nat.{ℕ, zero, suc, ◌<◌}
use mathlib.Core.Path.{◌≡◌, refl, sym, ap, subst, ◌∙◌}
use mathlib.Core.Bool.{Bool, true, false, cond}
use mathlib.Core.List.{List}
use mathlib.Core.Logic.{◌↔◌, ◌⊎◌, inl, inr, ⊎_elim}
use native.Mathlib.Omega.{arith}
use borrow.Author.Tests.{eqb-true, ne_eqb, ltb-true}
use lib.Dec.{eqb, ltb}
use lib.ListN.{length}
use Rattle.laws.specs.Ladder.{unless}
use Rattle.laws.specs.Below.{all_below}
use Rattle.laws.proofs.Tests.{never}
use Rattle.grammar.specs.Evaluation.{evaluation_of}
use Rattle.grammar.specs.declared.values.Slot.{Slot}
use Rattle.std.specs.Prelude.{Option, Some, None}
use Rattle.grammar.specs.declared.values.Val.{Val}
use Rattle.graph_tables.specs.Answers.{Answer, answer_number}
use Rattle.graph_tables.specs.Sizes.{plain_kind, send_kind, receive_kind}
use Rattle.graph_tables.specs.Words.{action_count, action_kind, effect_count, effect_var, effect_items, epsilon}
use Rattle.graph_tables.specs.declared.handed.Message.{Message}
use Rattle.run_steps.specs.Steps.{is_kind, clocks_after, Effected, assigned, unchanged, effects_below, effected_of, post_known}
use Rattle.run_steps.specs.Messages.{spoken_of, message_fits}
use Rattle.run_steps.proofs.StepLaws.{next_runs, effects_fit}
use Rattle.program_graph.specs.Facts.{Accepted, Not, AllPass, StepAsked, PlainAsked, MessageAsked, Valued, EffectsValued}
use Rattle.program_graph.specs.Running.{refused, fits_table, ready_still, autonomous_of, plain_of, acted_of, step_of, transition_of}
use Rattle.program_graph.specs.Messaging.{refused_send, said_of, send_of, heard_of, receive_of}
use Rattle.program_graph.specs.declared.record.ProgramGraphRun.{ProgramGraphRun}
use Rattle.program_graph.specs.Outcomes.{RunOutcome, Sent}
use Rattle.program_graph.proofs.RunLaws.{left_over}
use Rattle.program_graph.proofs.AnswerLaws.{accepted_ok, not_ok}
use Rattle.program_graph.proofs.RunReady.{through, step_asked, all_pass, reached_autonomous, reached_plain, reached_send}
use Rattle.program_graph.proofs.RunReady.{reached_receive}

-- ---- equivalences
both : {A B C D : Type 0} → A ↔ B → C ↔ D → (A × C) ↔ (B × D)
both f g = (λ p. (f.0 p.0, g.0 p.1), λ p. (f.1 p.0, g.1 p.1))

-- a test is false exactly when what it tests is not so
not_so : {A : Type 0} (b : Bool) → (b ≡ true) ↔ A → (b ≡ false) ↔ (A → ⊥)
not_so true f = (λ e a. never (sym e), λ n. absurd (n (f.0 refl)))
not_so false f = (λ e a. never (f.1 a), λ n. refl)

-- ---- a rung
module _ {A : Type 0} (answer : A → Answer ⊤) (b : Bool) (x rest : A) where
  -- its refusal is not this answer: the rung answers so exactly when it is passed and the rest does
  passes_on : (P : Answer ⊤ → Type 0) {Q : Type 0} → (P (answer x) → ⊥) → P (answer rest) ↔ Q → P (answer (unless b x rest)) ↔ ((b ≡ true) × Q)
  unfolding unless
  passes_on P = by b
    where
      by : (c : Bool) {Q : Type 0} → (P (answer x) → ⊥) → P (answer rest) ↔ Q → P (answer (unless c x rest)) ↔ ((c ≡ true) × Q)
      by true n f = (λ p. (refl, f.0 p), λ q. f.1 q.1)
      by false n f = (λ p. absurd (n p), λ q. never q.0)

  -- its refusal is this answer, and the rest is not: exactly when it is not passed
  stops_here : (P : Answer ⊤ → Type 0) → P (answer x) → (P (answer rest) → ⊥) → P (answer (unless b x rest)) ↔ (b ≡ false)
  unfolding unless
  stops_here P = by b
    where
      by : (c : Bool) → P (answer x) → (P (answer rest) → ⊥) → P (answer (unless c x rest)) ↔ (c ≡ false)
      by true p n = (λ q. absurd (n q), λ e. never (sym e))
      by false p n = (λ q. refl, λ e. p)

  -- neither is
  neither : (P : Answer ⊤ → Type 0) → (P (answer x) → ⊥) → (P (answer rest) → ⊥) → P (answer (unless b x rest)) → ⊥
  unfolding unless
  neither P = by b
    where
      by : (c : Bool) → (P (answer x) → ⊥) → (P (answer rest) → ⊥) → P (answer (unless c x rest)) → ⊥
      by true m n = n
      by false m n = m

-- accepted, whatever comes before
sure : {A : Type 0} → A → A ↔ Unit {0}
sure a = (λ p. tt, λ u. a)

only_first : {A : Type 0} → (A × Unit {0}) ↔ A
only_first = (λ p. p.0, λ a. (a, tt))

-- it answers this number
abbrev Answers : ℕ → Answer ⊤ → Type 0
Answers n d = answer_number d ≡ n

-- ---- effects that all have a value
known_so : (e : Option Val) → Valued e → (s : Effected) (v rest : ℕ) → (assigned s v e rest).fits ≡ s.fits
known_so (Some x) k s v rest = refl
known_so None k s v rest = let z : ◌≡◌ {A = ℕ} 0 1 = cc k.1 in absurd (omega arith)

fits_from : (e : Option Val) (s : Effected) (v rest : ℕ) → (assigned s v e rest).fits ≡ true → Valued e
fits_from (Some x) s v rest h = (x, refl)
fits_from None s v rest h = never h

module _ (t : List ℕ) (a : ℕ) (s : Effected) where
  -- effect n in its turn
  abbrev turn : ℕ → Option Val
  turn n = (evaluation_of (effects_below t a s n).vars (effects_below t a s n).word (effect_items t a n)).value

  -- what is left of the word after it
  abbrev rest_at : ℕ → ℕ
  rest_at n = (evaluation_of (effects_below t a s n).vars (effects_below t a s n).word (effect_items t a n)).rest

  -- it is run where those before it had a value
  runs : (n : ℕ) → (effects_below t a s n).fits ≡ true
      → (effects_below t a s (suc n)).fits
      ≡ (assigned (effects_below t a s n) (effect_var t a n) (turn n) (rest_at n)).fits
  unfolding effects_below
  runs n f = ap (λ (r : Effected). r.fits) (next_runs (effects_below t a s n) (effect_var t a n) (effect_items t a n) f)

  valued_below : (n : ℕ) → (effects_below t a s n).fits ≡ true → (e : ℕ) → e < n → Valued (turn e)
  valued_below n h e l =
      fits_from (turn e) (effects_below t a s e) (effect_var t a e) (rest_at e)
      (sym (runs e (effects_fit t a s n e (omega arith) h)) ∙ effects_fit t a s n (suc e) l h)

  all_valued : (n : ℕ) → s.fits ≡ true → ((e : ℕ) → e < n → Valued (turn e)) → (effects_below t a s n).fits ≡ true
  unfolding effects_below
  all_valued zero f h = f
  all_valued (suc n) f h =
      let k = all_valued n f (λ e l. h e (omega arith)) in
      runs n k ∙ known_so (turn n) (h n (omega arith)) (effects_below t a s n) (effect_var t a n) (rest_at n) ∙ k

-- the effects of a plain action fit exactly when each has a value in its turn
pub effects_valued : (t : List ℕ) (a : ℕ) (vars : List Slot) (word : ℕ)
    → ((effected_of t a vars word).fits ≡ true) ↔ EffectsValued t a vars word
effects_valued t a vars word = (
  λ h. valued_below t a (unchanged vars word) (effect_count t a) h,
  λ h. all_valued t a (unchanged vars word) (effect_count t a) refl h,
)

-- ---- steps
module _ (t : List ℕ) (run : ProgramGraphRun) (posts : List ℕ) where
  -- A step by EPSILON is accepted exactly when each process has a transition that passes, on the clocks as they are.
  pub autonomous_accepted : (word : ℕ) → StepAsked t run posts
      → Accepted (transition_of t run epsilon posts word).answer ↔ AllPass t run epsilon posts run.times
  unfolding autonomous_of
  autonomous_accepted word q =
      subst (λ (s : RunOutcome). Accepted s.answer ↔ AllPass t run epsilon posts run.times) (reached_autonomous t run posts word q)
      (through (passes_on (λ (s : RunOutcome). s.answer) (ready_still t run epsilon posts) (refused 8 run) _ Accepted not_ok (sure accepted_ok))
      (through only_first (all_pass t run posts epsilon run.times)))

  -- A plain step is accepted exactly when each process has a transition that passes, with the clocks that the action resets at 0, and each
  -- effect has a value in its turn.
  pub plain_accepted : (a word : ℕ) → PlainAsked t run a posts
      → Accepted (transition_of t run a posts word).answer
      ↔ (AllPass t run a posts (clocks_after t a run.times) × EffectsValued t a run.vars word)
  unfolding plain_of
  plain_accepted a word q =
      subst (λ (s : RunOutcome). Accepted s.answer ↔ (AllPass t run a posts (clocks_after t a run.times) × EffectsValued t a run.vars word))
      (reached_plain t run posts a word q)
      (through
      (passes_on (λ (s : RunOutcome). s.answer) _ (refused 8 run) _ Accepted not_ok
      (through (passes_on (λ (s : RunOutcome). s.answer) _ (refused 26 run) _ Accepted not_ok (sure accepted_ok)) only_first))
      (both (all_pass t run posts a (clocks_after t a run.times)) (effects_valued t a run.vars word)))

  -- It answers 26 exactly when they pass and some effect has no value.
  pub plain_overflow : (a word : ℕ) → PlainAsked t run a posts
      → Answers 26 (transition_of t run a posts word).answer
      ↔ (AllPass t run a posts (clocks_after t a run.times) × (EffectsValued t a run.vars word → ⊥))
  unfolding plain_of
  plain_overflow a word q =
      subst (λ (s : RunOutcome). Answers 26 s.answer
      ↔ (AllPass t run a posts (clocks_after t a run.times) × (EffectsValued t a run.vars word → ⊥)))
      (reached_plain t run posts a word q)
      (through
      (passes_on (λ (s : RunOutcome). s.answer) _ (refused 8 run) _ (Answers 26) (λ e. omega arith)
      (stops_here (λ (s : RunOutcome). s.answer) _ (refused 26 run) _ (Answers 26) refl (λ e. omega arith)))
      (both (all_pass t run posts a (clocks_after t a run.times)) (not_so _ (effects_valued t a run.vars word))))

  -- It answers 8 exactly when they do not pass.
  pub plain_unsatisfied : (a word : ℕ) → PlainAsked t run a posts
      → Answers 8 (transition_of t run a posts word).answer ↔ (AllPass t run a posts (clocks_after t a run.times) → ⊥)
  unfolding plain_of
  plain_unsatisfied a word q =
      subst (λ (s : RunOutcome). Answers 8 s.answer ↔ (AllPass t run a posts (clocks_after t a run.times) → ⊥))
      (reached_plain t run posts a word q)
      (through
      (stops_here (λ (s : RunOutcome). s.answer) _ (refused 8 run) _ (Answers 8) refl
      (neither (λ (s : RunOutcome). s.answer) _ (refused 26 run) _ (Answers 8) (λ e. omega arith) (λ e. omega arith)))
      (not_so _ (all_pass t run posts a (clocks_after t a run.times))))

  -- ---- messages
  -- A send is accepted exactly when each process has a transition that passes, the action is a send, and each of its expressions has a
  -- value.
  pub send_accepted : (a word : ℕ) → MessageAsked t run a posts
      → Accepted (send_of t run a posts word).answer
      ↔ (AllPass t run a posts run.times × ((is_kind t a send_kind ≡ true) × ((spoken_of t a run.vars word).fits ≡ true)))
  unfolding said_of
  send_accepted a word q =
      subst (λ (s : Sent). Accepted s.answer
      ↔ (AllPass t run a posts run.times × ((is_kind t a send_kind ≡ true) × ((spoken_of t a run.vars word).fits ≡ true))))
      (reached_send t run posts a word q)
      (through
      (passes_on (λ (s : Sent). s.answer) _ (refused_send 8 run) _ Accepted not_ok
      (passes_on (λ (s : Sent). s.answer) _ (refused_send 14 run) _ Accepted not_ok
      (through (passes_on (λ (s : Sent). s.answer) _ (refused_send 26 run) _ Accepted not_ok (sure accepted_ok)) only_first)))
      (both (all_pass t run posts a run.times) (λ p. p, λ p. p)))

  -- It answers 26 exactly when they pass, the action is a send, and an expression has no value.
  pub send_overflow : (a word : ℕ) → MessageAsked t run a posts
      → Answers 26 (send_of t run a posts word).answer
      ↔ (AllPass t run a posts run.times × ((is_kind t a send_kind ≡ true) × ((spoken_of t a run.vars word).fits ≡ false)))
  unfolding said_of
  send_overflow a word q =
      subst (λ (s : Sent). Answers 26 s.answer
      ↔ (AllPass t run a posts run.times × ((is_kind t a send_kind ≡ true) × ((spoken_of t a run.vars word).fits ≡ false))))
      (reached_send t run posts a word q)
      (through
      (passes_on (λ (s : Sent). s.answer) _ (refused_send 8 run) _ (Answers 26) (λ e. omega arith)
      (passes_on (λ (s : Sent). s.answer) _ (refused_send 14 run) _ (Answers 26) (λ e. omega arith)
      (stops_here (λ (s : Sent). s.answer) _ (refused_send 26 run) _ (Answers 26) refl (λ e. omega arith))))
      (both (all_pass t run posts a run.times) (λ p. p, λ p. p)))

  -- It answers 14 exactly when they pass and the action is no send.
  pub send_not_send : (a word : ℕ) → MessageAsked t run a posts
      → Answers 14 (send_of t run a posts word).answer ↔ (AllPass t run a posts run.times × (is_kind t a send_kind ≡ false))
  unfolding said_of
  send_not_send a word q =
      subst (λ (s : Sent). Answers 14 s.answer ↔ (AllPass t run a posts run.times × (is_kind t a send_kind ≡ false)))
      (reached_send t run posts a word q)
      (through
      (passes_on (λ (s : Sent). s.answer) _ (refused_send 8 run) _ (Answers 14) (λ e. omega arith)
      (stops_here (λ (s : Sent). s.answer) _ (refused_send 14 run) _ (Answers 14) refl
      (neither (λ (s : Sent). s.answer) _ (refused_send 26 run) _ (Answers 14) (λ e. omega arith) (λ e. omega arith))))
      (both (all_pass t run posts a run.times) (λ p. p, λ p. p)))

  -- A receive is accepted exactly when each process has a transition that passes, the action is a receive, and the message fits it.
  pub receive_accepted : (a : ℕ) (m : Message) → MessageAsked t run a posts
      → Accepted (receive_of t run a posts m).answer
      ↔ (AllPass t run a posts run.times × ((is_kind t a receive_kind ≡ true) × (message_fits t a m ≡ true)))
  unfolding heard_of
  receive_accepted a m q =
      subst (λ (s : RunOutcome). Accepted s.answer
      ↔ (AllPass t run a posts run.times × ((is_kind t a receive_kind ≡ true) × (message_fits t a m ≡ true))))
      (reached_receive t run posts a m q)
      (through
      (passes_on (λ (s : RunOutcome). s.answer) _ (refused 8 run) _ Accepted not_ok
      (passes_on (λ (s : RunOutcome). s.answer) _ (refused 15 run) _ Accepted not_ok
      (through (passes_on (λ (s : RunOutcome). s.answer) _ (refused 5 run) _ Accepted not_ok (sure accepted_ok)) only_first)))
      (both (all_pass t run posts a run.times) (λ p. p, λ p. p)))

  -- It answers 5 exactly when they pass, the action is a receive, and the message does not fit it.
  pub receive_mismatch : (a : ℕ) (m : Message) → MessageAsked t run a posts
      → Answers 5 (receive_of t run a posts m).answer
      ↔ (AllPass t run a posts run.times × ((is_kind t a receive_kind ≡ true) × (message_fits t a m ≡ false)))
  unfolding heard_of
  receive_mismatch a m q =
      subst (λ (s : RunOutcome). Answers 5 s.answer
      ↔ (AllPass t run a posts run.times × ((is_kind t a receive_kind ≡ true) × (message_fits t a m ≡ false))))
      (reached_receive t run posts a m q)
      (through
      (passes_on (λ (s : RunOutcome). s.answer) _ (refused 8 run) _ (Answers 5) (λ e. omega arith)
      (passes_on (λ (s : RunOutcome). s.answer) _ (refused 15 run) _ (Answers 5) (λ e. omega arith)
      (stops_here (λ (s : RunOutcome). s.answer) _ (refused 5 run) _ (Answers 5) refl (λ e. omega arith))))
      (both (all_pass t run posts a run.times) (λ p. p, λ p. p)))

  -- It answers 15 exactly when they pass and the action is no receive.
  pub receive_not_receive : (a : ℕ) (m : Message) → MessageAsked t run a posts
      → Answers 15 (receive_of t run a posts m).answer ↔ (AllPass t run a posts run.times × (is_kind t a receive_kind ≡ false))
  unfolding heard_of
  receive_not_receive a m q =
      subst (λ (s : RunOutcome). Answers 15 s.answer ↔ (AllPass t run a posts run.times × (is_kind t a receive_kind ≡ false)))
      (reached_receive t run posts a m q)
      (through
      (passes_on (λ (s : RunOutcome). s.answer) _ (refused 8 run) _ (Answers 15) (λ e. omega arith)
      (stops_here (λ (s : RunOutcome). s.answer) _ (refused 15 run) _ (Answers 15) refl
      (neither (λ (s : RunOutcome). s.answer) _ (refused 5 run) _ (Answers 15) (λ e. omega arith) (λ e. omega arith))))
      (both (all_pass t run posts a run.times) (λ p. p, λ p. p)))

-- ---- what is not refused before the guards
module _ {A : Type 0} (answer : A → Answer ⊤) (b : Bool) (x rest : A) where
  -- a rung that does not answer its own number is passed
  must_pass : (n : ℕ) → Answers n (answer x) → Not n (answer (unless b x rest)) → b ≡ true
  unfolding unless
  must_pass n = by b
    where
      by : (c : Bool) → Answers n (answer x) → Not n (answer (unless c x rest)) → c ≡ true
      by true e k = refl
      by false e k = absurd (k e)

  -- and the rest answers
  goes_on : b ≡ true → unless b x rest ≡ rest
  unfolding unless
  goes_on e = ap (λ (c : Bool). unless c x rest) e

module _ (t : List ℕ) (run : ProgramGraphRun) (posts : List ℕ) (a word : ℕ) where
  -- refused neither for its run nor for its posts
  abbrev NotBefore : Answer ⊤ → Type 0
  NotBefore d = Not 32 d × Not 7 d × Not 3 d

  asked_step : NotBefore (transition_of t run a posts word).answer
      → StepAsked t run posts
      × (transition_of t run a posts word ≡ cond (eqb a epsilon) (autonomous_of t run posts) (acted_of t run a posts word))
  unfolding transition_of step_of
  asked_step h =
      let f = must_pass (λ (s : RunOutcome). s.answer) (fits_table t run) (refused 32 run) (step_of t run a posts word) 32 refl h.0 in
      let e = goes_on (λ (s : RunOutcome). s.answer) (fits_table t run) (refused 32 run) (step_of t run a posts word) f in
      let tail : RunOutcome = unless (all_below (length posts) (post_known t posts)) (refused 3 run)
      (cond (eqb a epsilon) (autonomous_of t run posts) (acted_of t run a posts word)) in
      let o = must_pass (λ (s : RunOutcome). s.answer) (eqb (length posts) run.processes) (refused 7 run) tail 7 refl
      (subst (λ (s : RunOutcome). Not 7 s.answer) e h.1) in
      let g = goes_on (λ (s : RunOutcome). s.answer) (eqb (length posts) run.processes) (refused 7 run) tail o in
      let k = must_pass (λ (s : RunOutcome). s.answer) (all_below (length posts) (post_known t posts)) (refused 3 run) _ 3 refl
      (subst (λ (s : RunOutcome). Not 3 s.answer) (e ∙ g) h.2) in
      let r = goes_on (λ (s : RunOutcome). s.answer) (all_below (length posts) (post_known t posts)) (refused 3 run) _ k in
      (step_asked t run posts f o k, e ∙ g ∙ r)

  -- A plain step is refused neither for its run, its posts nor its action exactly when it answers none of 32, 7, 3, 1 and 13.
  pub plain_asked : (a ≡ epsilon → ⊥)
      → PlainAsked t run a posts
      ↔ (NotBefore (transition_of t run a posts word).answer
      × (Not 1 (transition_of t run a posts word).answer × Not 13 (transition_of t run a posts word).answer))
  unfolding acted_of plain_of
  plain_asked named = (there, back)
    where
      no : (n : ℕ) → (8 ≡ n → ⊥) → (26 ≡ n → ⊥) → (0 ≡ n → ⊥) → PlainAsked t run a posts → Not n (transition_of t run a posts word).answer
      no n x y z q =
          subst (λ (s : RunOutcome). Not n s.answer) (reached_plain t run posts a word q)
          (neither (λ (s : RunOutcome). s.answer) _ (refused 8 run) _ (Answers n) x
          (neither (λ (s : RunOutcome). s.answer) _ (refused 26 run) _ (Answers n) y z))

      there : PlainAsked t run a posts
          → NotBefore (transition_of t run a posts word).answer
          × (Not 1 (transition_of t run a posts word).answer × Not 13 (transition_of t run a posts word).answer)
      there q = (
        (
          no 32 (λ e. omega arith) (λ e. omega arith) (λ e. omega arith) q,
          no 7 (λ e. omega arith) (λ e. omega arith) (λ e. omega arith) q,
          no 3 (λ e. omega arith) (λ e. omega arith) (λ e. omega arith) q,
        ),
        (no 1 (λ e. omega arith) (λ e. omega arith) (λ e. omega arith) q, no 13 (λ e. omega arith) (λ e. omega arith) (λ e. omega arith) q),
      )

      back : NotBefore (transition_of t run a posts word).answer
          × (Not 1 (transition_of t run a posts word).answer × Not 13 (transition_of t run a posts word).answer)
          → PlainAsked t run a posts
      back h =
          let q = asked_step h.0 in
          let e : transition_of t run a posts word ≡ acted_of t run a posts word = q.1 ∙ sym (left_over _ (ne_eqb a epsilon named) refl) in
          let tail : RunOutcome = unless (eqb (action_kind t a) plain_kind) (refused 13 run) (plain_of t run a posts word) in
          let l = must_pass (λ (s : RunOutcome). s.answer) (ltb a (action_count t)) (refused 1 run) tail 1 refl
          (subst (λ (s : RunOutcome). Not 1 s.answer) e h.1.0) in
          let g = goes_on (λ (s : RunOutcome). s.answer) (ltb a (action_count t)) (refused 1 run) tail l in
          let k = must_pass (λ (s : RunOutcome). s.answer) (eqb (action_kind t a) plain_kind) (refused 13 run) _ 13 refl
          (subst (λ (s : RunOutcome). Not 13 s.answer) (e ∙ g) h.1.1) in
          record { step = q.0; action = ltb-true _ _ l; plain = eqb-true _ _ k }

-- A step by EPSILON is refused neither for its run nor for its posts exactly when it answers none of 32, 7 and 3.
pub autonomous_asked : (t : List ℕ) (run : ProgramGraphRun) (posts : List ℕ) (word : ℕ)
    → StepAsked t run posts
    ↔ (Not 32 (transition_of t run epsilon posts word).answer × Not 7 (transition_of t run epsilon posts word).answer
    × Not 3 (transition_of t run epsilon posts word).answer)
unfolding autonomous_of
autonomous_asked t run posts word = (
  λ q. (
    no 32 (λ e. omega arith) (λ e. omega arith) q,
    no 7 (λ e. omega arith) (λ e. omega arith) q,
    no 3 (λ e. omega arith) (λ e. omega arith) q,
  ),
  λ h. (asked_step t run posts epsilon word h).0,
)
  where
    no : (n : ℕ) → (8 ≡ n → ⊥) → (0 ≡ n → ⊥) → StepAsked t run posts → Not n (transition_of t run epsilon posts word).answer
    no n x z q =
        subst (λ (s : RunOutcome). Not n s.answer) (reached_autonomous t run posts word q)
        (neither (λ (s : RunOutcome). s.answer) _ (refused 8 run) _ (Answers n) x z)

-- ---- past its guards
-- A plain step is accepted or answers 26 exactly when each process has a transition that passes.
pub plain_past_guards : (t : List ℕ) (run : ProgramGraphRun) (posts : List ℕ) (a word : ℕ) → PlainAsked t run a posts
    → (Accepted (transition_of t run a posts word).answer ⊎ Answers 26 (transition_of t run a posts word).answer)
    ↔ AllPass t run a posts (clocks_after t a run.times)
plain_past_guards t run posts a word q = (
  λ h. ⊎_elim (λ (o : Accepted (transition_of t run a posts word).answer). ((plain_accepted t run posts a word q).0 o).0)
      (λ (n : Answers 26 (transition_of t run a posts word).answer). ((plain_overflow t run posts a word q).0 n).0) h,
  λ p. by p (effected_of t a run.vars word).fits refl,
)
  where
    by : AllPass t run a posts (clocks_after t a run.times) → (b : Bool) → (effected_of t a run.vars word).fits ≡ b
        → Accepted (transition_of t run a posts word).answer ⊎ Answers 26 (transition_of t run a posts word).answer
    by p true e = inl ((plain_accepted t run posts a word q).1 (p, (effects_valued t a run.vars word).0 e))
    by p false e = inr ((plain_overflow t run posts a word q).1 (p, λ v. never (sym e ∙ (effects_valued t a run.vars word).1 v)))
