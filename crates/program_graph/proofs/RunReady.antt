-- When the processes of a run are ready, and so which calls get past their guards.
use Rattle.std.specs.Prelude.{⊤}
use Prim.Native.Nat.{ℕ, ◌<◌, ◌≤◌}
use mathlib.Core.Path.{◌≡◌, refl, sym, ap, subst}
use mathlib.Core.Bool.{Bool, true, false, not}
use mathlib.Core.List.{List}
use mathlib.Core.Logic.{◌↔◌}
use native.Mathlib.Omega.{arith}
use borrow.Author.Tests.{eqb-true, eq-eqb, ne_eqb, ltb-true, lt-ltb}
use lib.Dec.{eqb}
use lib.ListN.{length, get_or}
use Rattle.laws.specs.Ladder.{unless}
use Rattle.laws.specs.Below.{all_below}
use Rattle.laws.proofs.Ladder.{passed}
use Rattle.laws.proofs.BelowLaws.{and_first, and_rest, and_both, all_at, all_from}
use Rattle.laws.proofs.Tests.{never}
use Rattle.grammar.specs.declared.values.Slot.{Slot}
use Rattle.graph_tables.specs.Answers.{Answer, answer_number}
use Rattle.graph_tables.specs.Sizes.{action_room, send_kind, receive_kind}
use Rattle.graph_tables.specs.declared.handed.Message.{Message}
use Rattle.graph_tables.specs.Words.{action_count, transition_count, key_of, post_of, invariant_group, epsilon}
use Rattle.run_steps.specs.Steps.{limit_holds, limits_hold, invariants_hold, passes_of, leaves_by, leads_of, process_ready, ready_of, is_kind}
use Rattle.run_steps.specs.Steps.{clocks_after, post_known}
use Rattle.run_steps.proofs.StepLaws.{post_known_lem}
use Rattle.run_steps.proofs.AnyLaws.{any_some, any_found}
use Rattle.program_graph.specs.Facts.{InvariantsAt, Passing, AllPass, PastGuards, StepAsked, PlainAsked, MessageAsked}
use Rattle.program_graph.specs.declared.record.ProgramGraphRun.{ProgramGraphRun}
use Rattle.program_graph.specs.Outcomes.{RunOutcome, Sent}
use Rattle.program_graph.specs.Running.{refused, fits_table, ready_still, autonomous_of, plain_of, acted_of, step_of, transition_of}
use Rattle.program_graph.specs.Messaging.{refused_send, said_of, sent_of, send_of, heard_of, received_of, receive_of}
use Rattle.program_graph.proofs.RunLaws.{fitting, left_over}
use Rattle.program_graph.proofs.AnswerLaws.{skip}

-- the test, and the facts
module _ (t clocks : List ℕ) (l : ℕ) where
  pub invariant_at : invariants_hold t clocks l ≡ true → InvariantsAt t clocks l
  unfolding invariants_hold limits_hold limit_holds
  invariant_at h i m = all_at (limit_holds t (invariant_group l) clocks) _ i h m

  pub invariants_from : InvariantsAt t clocks l → invariants_hold t clocks l ≡ true
  unfolding invariants_hold limits_hold limit_holds
  invariants_from f = all_from (limit_holds t (invariant_group l) clocks) _ f

-- ---- when processes are ready
module _ (t : List ℕ) (vars : List Slot) (clocks after : List ℕ) where
  passing : (pre action post k : ℕ) → k < transition_count t → leads_of t vars clocks after pre action post k ≡ true
      → Passing t vars clocks after pre action post k
  unfolding leads_of leaves_by passes_of limits_hold limit_holds
  passing pre action post k l h =
      let c = and_first _ _ h in
      let r = and_rest _ _ h in
      let e : post_of (key_of t k) ≡ post = eqb-true _ _ (and_first _ _ r) in
      let q = and_rest _ _ r in
      record {
        known = l;
        from = eqb-true _ _ (and_first _ _ c);
        by = eqb-true _ _ (and_rest _ _ c);
        to = e;
        guard = and_first _ _ q;
        limits = λ i m. all_at (limit_holds t k clocks) _ i (and_first _ _ (and_rest _ _ q)) m;
        invariants = invariant_at t after post (subst (λ (l : ℕ). invariants_hold t after l ≡ true) e (and_rest _ _ (and_rest _ _ q)));
      }

  leading : (pre action post k : ℕ) → Passing t vars clocks after pre action post k → leads_of t vars clocks after pre action post k ≡ true
  unfolding leads_of leaves_by passes_of limits_hold limit_holds
  leading pre action post k h =
      and_both (and_both (eq-eqb _ _ h.from) (eq-eqb _ _ h.by))
      (and_both (eq-eqb _ _ h.to)
      (and_both h.guard
      (and_both (all_from (limit_holds t k clocks) _ h.limits)
      (subst (λ (l : ℕ). invariants_hold t after l ≡ true) (sym h.to) (invariants_from t after post h.invariants)))))

  -- Processes are ready exactly when each has a transition from its place, by the action, to its post that passes.
  pub ready_exactly : (places : List ℕ) (n action : ℕ) (posts : List ℕ)
      → (ready_of t vars clocks after places n action posts ≡ true)
      ↔ ((p : ℕ) → p < n → (k : ℕ) × Passing t vars clocks after (get_or places p 0) action (get_or posts p 0) k)
  unfolding ready_of process_ready
  ready_exactly places n action posts = (
    λ h p l.
        let s = any_some (leads_of t vars clocks after (get_or places p 0) action (get_or posts p 0)) (transition_count t)
        (all_at (process_ready t vars clocks after places action posts) n p h l) in
        (s.0, passing _ _ _ _ s.1 s.2),
    λ f. all_from (process_ready t vars clocks after places action posts) n
        (λ p l. any_found _ _ (f p l).0 (f p l).1.known (leading _ _ _ _ (f p l).1)),
  )

-- ---- which calls get past their guards
-- a rung for the guards that fails is where a ladder stops, and one that is passed is not
guards : {A : Type 0} (answer : A → Answer ⊤) (b : Bool) (refusal rest : A) → answer_number (answer refusal) ≡ 8
    → PastGuards (answer rest) → PastGuards (answer (unless b refusal rest)) ↔ (b ≡ true)
unfolding unless
guards answer true refusal rest e n = (λ k. refl, λ q. n)
guards answer false refusal rest e n = (λ k. absurd (k e), λ q. never q)

-- two equivalences in a row
pub through : {A B C : Type 0} → A ↔ B → B ↔ C → A ↔ C
through f g = (λ a. g.0 (f.0 a), λ c. f.1 (g.1 c))

module _ (t : List ℕ) (run : ProgramGraphRun) (posts : List ℕ) where
  -- what is asked, as the tests of a ladder
  posts_known : StepAsked t run posts → all_below (length posts) (post_known t posts) ≡ true
  posts_known q = all_from (post_known t posts) (length posts) (λ p l. post_known_lem t posts p (q.known p l))

  pub step_asked : fits_table t run ≡ true → eqb (length posts) run.processes ≡ true → all_below (length posts) (post_known t posts) ≡ true
      → StepAsked t run posts
  unfolding post_known
  step_asked f e k =
      record { fits = f; one_each = eqb-true _ _ e; known = λ p l. ltb-true _ _ (all_at (post_known t posts) (length posts) p k l) }

  -- a call that is ready, as a test and in full
  pub all_pass : (a : ℕ) (after : List ℕ)
      → (ready_of t run.vars run.times after run.places run.processes a posts ≡ true) ↔ AllPass t run a posts after
  all_pass a after = ready_exactly t run.vars run.times after run.places run.processes a posts

  -- what is asked passes the rungs before the guards
  pub reached_autonomous : (word : ℕ) → StepAsked t run posts → autonomous_of t run posts ≡ transition_of t run epsilon posts word
  unfolding transition_of step_of
  reached_autonomous word q = passed _ q.fits (passed _ (eq-eqb _ _ q.one_each) (passed _ (posts_known q) refl))

  pub reached_plain : (a word : ℕ) → PlainAsked t run a posts → plain_of t run a posts word ≡ transition_of t run a posts word
  unfolding transition_of step_of acted_of
  reached_plain a word q =
      let few : action_count t ≤ action_room = (fitting t run q.step.fits).0.counts.actions in
      passed _ q.step.fits
      (passed _ (eq-eqb _ _ q.step.one_each)
      (passed _ (posts_known q.step)
      (left_over _ (ne_eqb a epsilon (λ e. omega (arith, q.action)))
      (passed _ (lt-ltb _ _ q.action) (passed _ (eq-eqb _ _ q.plain) refl)))))

  pub reached_send : (a word : ℕ) → MessageAsked t run a posts
      → unless (ready_still t run a posts) (refused_send 8 run)
      (unless (is_kind t a send_kind) (refused_send 14 run) (said_of t run a posts word))
      ≡ send_of t run a posts word
  unfolding send_of sent_of
  reached_send a word q = passed _ q.fits (passed _ (ap not (ne_eqb a epsilon q.named)) (passed _ (eq-eqb _ _ q.one_each) refl))

  pub reached_receive : (a : ℕ) (m : Message) → MessageAsked t run a posts
      → unless (ready_still t run a posts) (refused 8 run)
      (unless (is_kind t a receive_kind) (refused 15 run) (heard_of t run a posts m))
      ≡ receive_of t run a posts m
  unfolding receive_of received_of
  reached_receive a m q = passed _ q.fits (passed _ (ap not (ne_eqb a epsilon q.named)) (passed _ (eq-eqb _ _ q.one_each) refl))

  -- ---- when a call gets past its guards
  -- A step by EPSILON gets past its guards exactly when each process has a transition that passes, on the clocks as they are.
  pub autonomous_exactly : (word : ℕ) → StepAsked t run posts
      → PastGuards (transition_of t run epsilon posts word).answer ↔ AllPass t run epsilon posts run.times
  unfolding autonomous_of
  autonomous_exactly word q =
      subst (λ (s : RunOutcome). PastGuards s.answer ↔ AllPass t run epsilon posts run.times) (reached_autonomous word q)
      (through
      (guards (λ (s : RunOutcome). s.answer) (ready_still t run epsilon posts) (refused 8 run) _ refl (λ e. omega arith))
      (all_pass epsilon run.times))

  -- A plain step gets past its guards exactly when each process has a transition that passes, with the clocks that the action resets at 0.
  pub plain_exactly : (a word : ℕ) → PlainAsked t run a posts
      → PastGuards (transition_of t run a posts word).answer ↔ AllPass t run a posts (clocks_after t a run.times)
  unfolding plain_of
  plain_exactly a word q =
      subst (λ (s : RunOutcome). PastGuards s.answer ↔ AllPass t run a posts (clocks_after t a run.times)) (reached_plain a word q)
      (through
      (guards (λ (s : RunOutcome). s.answer)
      (ready_of t run.vars run.times (clocks_after t a run.times) run.places run.processes a posts)
      (refused 8 run) _ refl
      (skip (λ (s : RunOutcome). s.answer) 8 _ (refused 26 run) _ (λ e. omega arith) (λ e. omega arith)))
      (all_pass a (clocks_after t a run.times)))

  -- A send gets past its guards exactly when each process has a transition that passes, on the clocks as they are.
  pub send_exactly : (a word : ℕ) → MessageAsked t run a posts
      → PastGuards (send_of t run a posts word).answer ↔ AllPass t run a posts run.times
  unfolding said_of
  send_exactly a word q =
      subst (λ (s : Sent). PastGuards s.answer ↔ AllPass t run a posts run.times) (reached_send a word q)
      (through
      (guards (λ (s : Sent). s.answer) (ready_still t run a posts) (refused_send 8 run) _ refl
      (skip (λ (s : Sent). s.answer) 8 _ (refused_send 14 run) _ (λ e. omega arith)
      (skip (λ (s : Sent). s.answer) 8 _ (refused_send 26 run) _ (λ e. omega arith) (λ e. omega arith))))
      (all_pass a run.times))

  -- So does a receive.
  pub receive_exactly : (a : ℕ) (m : Message) → MessageAsked t run a posts
      → PastGuards (receive_of t run a posts m).answer ↔ AllPass t run a posts run.times
  unfolding heard_of
  receive_exactly a m q =
      subst (λ (s : RunOutcome). PastGuards s.answer ↔ AllPass t run a posts run.times) (reached_receive a m q)
      (through
      (guards (λ (s : RunOutcome). s.answer) (ready_still t run a posts) (refused 8 run) _ refl
      (skip (λ (s : RunOutcome). s.answer) 8 _ (refused 15 run) _ (λ e. omega arith)
      (skip (λ (s : RunOutcome). s.answer) 8 _ (refused 5 run) _ (λ e. omega arith) (λ e. omega arith))))
      (all_pass a run.times))
