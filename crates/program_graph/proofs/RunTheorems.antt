-- What the calls on a run do.
use Rattle.std.specs.Prelude.{Ok, Err}
use Prim.Native.Nat.{ℕ, ◌+◌, ◌<◌, ◌≤◌}
use mathlib.Core.Path.{◌≡◌, refl, sym, ap, subst, ◌∙◌}
use mathlib.Core.Bool.{Bool, true, false}
use mathlib.Core.List.{List}
use mathlib.Core.Logic.{◌↔◌}
use native.Mathlib.Decide.{ℕ_discrete}
use native.Mathlib.Omega.{arith}
use borrow.Author.Tests.{eqb-true, ltb-true}
use lib.Dec.{eqb}
use lib.ListN.{get_or}
use Rattle.laws.specs.Ladder.{unless}
use Rattle.laws.specs.Below.{◌and◌}
use Rattle.laws.proofs.Ladder.{passed, rung}
use Rattle.laws.proofs.BelowLaws.{and_first, and_rest, all_at, all_from}
use Rattle.time.specs.Time.{in_range}
use Rattle.time.proofs.Theorems.{between}
use Rattle.grammar.specs.Evaluation.{blank}
use Rattle.grammar.specs.declared.values.Slot.{Slot}
use Rattle.std.specs.Prelude.{Some}
use Rattle.graph_tables.specs.Refusals.{refusal}
use Rattle.graph_tables.specs.Sizes.{message_room, send_kind, receive_kind, last_time}
use Rattle.graph_tables.specs.declared.handed.Message.{Message}
use Rattle.graph_tables.specs.Words.{variable_count, clock_count, reset_count, reset_at, effect_count, effect_var, invariant_group, clock_of}
use Rattle.graph_tables.specs.Words.{limit_range, epsilon}
use Rattle.graph_tables.specs.Sound.{Sound}
use Rattle.run_steps.specs.Steps.{is_kind, clocks_after, effected_of, clock_fits, shifted_below, place_holds}
use Rattle.run_steps.specs.Messages.{unsaid, spoken_of, message_of, no_message, taken_of}
use Rattle.run_steps.proofs.StepLaws.{fits_at, clock_fits_lem, reset_at_lem, reset_other, shifted_at, placed_at, effects_other}
use Rattle.run_steps.proofs.MessageLaws.{taken_kept, taken_last}
use Rattle.program_graph.specs.Facts.{Sized, Accepted, InvariantsAt, Holding, AllPass, PlainAsked}
use Rattle.program_graph.specs.declared.record.ProgramGraphRun.{ProgramGraphRun}
use Rattle.program_graph.specs.Outcomes.{RunOutcome, Sent}
use Rattle.program_graph.specs.Running.{refused, accepted, fits_table, ready_still, moved_to, autonomous_of}
use Rattle.program_graph.specs.Running.{plain_of, acted_of, step_of, transition_of, wait_fits, wait_holds, later, waited_of, wait_of}
use Rattle.program_graph.specs.Running.{can_wait_of}
use Rattle.program_graph.specs.Messaging.{refused_send, said_of, sent_of, send_of, heard_of, received_of, receive_of}
use Rattle.program_graph.proofs.SaidLaws.{turn, said}
use Rattle.program_graph.proofs.RunLaws.{fitting, same_clocks, places_room, clocks_room, places_below, either_way}
use Rattle.program_graph.proofs.AnswerLaws.{accepted_ok, is_ok, not_ok, Returns}
use Rattle.program_graph.proofs.RunReady.{invariant_at, invariants_from, step_asked, all_pass}

-- ---- asking for a wait
-- an answer that something holds, of three tests, and the ladder of the same three
asked : (f w h : Bool) (run after : ProgramGraphRun)
    → (unless f (Err (refusal 32)) (Ok (w and h)) ≡ Ok true)
    ↔ Accepted (unless f (refused 32 run) (unless w (refused 26 run) (unless h (refused 9 run) (accepted after)))).answer
unfolding unless ◌and◌
asked true true true run after = (λ e. accepted_ok, λ e. refl)
asked true true false run after = (λ e. let z : ◌≡◌ {A = ℕ} 0 1 = cc in absurd (omega arith), not_ok)
asked true false h run after = (λ e. let z : ◌≡◌ {A = ℕ} 0 1 = cc in absurd (omega arith), not_ok)
asked false w h run after = (λ e. let z : ◌≡◌ {A = ℕ} 0 1 = cc in absurd (omega arith), not_ok)

-- `can_wait` says yes exactly when `wait` is accepted.
pub can_wait_exactly : (t : List ℕ) (run : ProgramGraphRun) (delta : ℕ)
    → (can_wait_of t run delta ≡ Ok true) ↔ Accepted (wait_of t run delta).answer
unfolding can_wait_of wait_of waited_of
can_wait_exactly t run delta = asked (fits_table t run) (wait_fits run delta) (wait_holds t run delta) run (later run delta)

-- ---- refusals
module _ (t : List ℕ) (run : ProgramGraphRun) where
  -- A refused step gives back the run.
  pub step_refused : (a : ℕ) (posts : List ℕ) (word : ℕ) → (Accepted (step_of t run a posts word).answer → ⊥) → (step_of t run a posts word).run ≡ run
  unfolding step_of autonomous_of acted_of plain_of
  step_refused a posts word =
      let P : RunOutcome → Type 0 = Returns (λ s. s.answer) (λ s. s.run) run in
      rung P _ (refused 7 run) _ (λ n. refl)
      (λ e. rung P _ (refused 3 run) _ (λ n. refl)
      (λ e. either_way P (eqb a epsilon) _ _
      (λ e. rung P _ (refused 8 run) _ (λ n. refl) (λ e n. absurd (n accepted_ok)))
      (λ e. rung P _ (refused 1 run) _ (λ n. refl)
      (λ e. rung P _ (refused 13 run) _ (λ n. refl)
      (λ e. rung P _ (refused 8 run) _ (λ n. refl)
      (λ e. rung P _ (refused 26 run) _ (λ n. refl) (λ e n. absurd (n accepted_ok))))))))

  pub transition_refused : (a : ℕ) (posts : List ℕ) (word : ℕ)
      → (Accepted (transition_of t run a posts word).answer → ⊥) → (transition_of t run a posts word).run ≡ run
  unfolding transition_of
  transition_refused a posts word =
      rung (Returns {A = RunOutcome} (λ s. s.answer) (λ s. s.run) run) _ (refused 32 run) _ (λ n. refl) (λ e. step_refused a posts word)

  -- A refused wait gives back the run.
  pub wait_refused : (delta : ℕ) → (Accepted (wait_of t run delta).answer → ⊥) → (wait_of t run delta).run ≡ run
  unfolding wait_of waited_of
  wait_refused delta =
      let P : RunOutcome → Type 0 = Returns (λ s. s.answer) (λ s. s.run) run in
      rung P _ (refused 32 run) _ (λ n. refl)
      (λ e. rung P _ (refused 26 run) _ (λ n. refl)
      (λ e. rung P _ (refused 9 run) _ (λ n. refl) (λ e n. absurd (n accepted_ok))))

  -- A refused send gives back the run, and no message.
  pub sent_refused : (a : ℕ) (posts : List ℕ) (word : ℕ) → (Accepted (sent_of t run a posts word).answer → ⊥)
      → ((sent_of t run a posts word).run ≡ run) × ((sent_of t run a posts word).message ≡ no_message)
  unfolding sent_of said_of
  sent_refused a posts word =
      let P : Sent → Type 0 = λ s. (Accepted s.answer → ⊥) → (s.run ≡ run) × (s.message ≡ no_message) in
      rung P _ (refused_send 14 run) _ (λ n. (refl, refl))
      (λ e. rung P _ (refused_send 7 run) _ (λ n. (refl, refl))
      (λ e. rung P _ (refused_send 8 run) _ (λ n. (refl, refl))
      (λ e. rung P _ (refused_send 14 run) _ (λ n. (refl, refl))
      (λ e. rung P _ (refused_send 26 run) _ (λ n. (refl, refl)) (λ e n. absurd (n accepted_ok))))))

  pub send_refused : (a : ℕ) (posts : List ℕ) (word : ℕ) → (Accepted (send_of t run a posts word).answer → ⊥)
      → ((send_of t run a posts word).run ≡ run) × ((send_of t run a posts word).message ≡ no_message)
  unfolding send_of
  send_refused a posts word =
      let P : Sent → Type 0 = λ s. (Accepted s.answer → ⊥) → (s.run ≡ run) × (s.message ≡ no_message) in
      rung P _ (refused_send 32 run) _ (λ n. (refl, refl)) (λ e. sent_refused a posts word)

  -- A refused receive gives back the run.
  pub received_refused : (a : ℕ) (posts : List ℕ) (m : Message)
      → (Accepted (received_of t run a posts m).answer → ⊥) → (received_of t run a posts m).run ≡ run
  unfolding received_of heard_of
  received_refused a posts m =
      let P : RunOutcome → Type 0 = Returns (λ s. s.answer) (λ s. s.run) run in
      rung P _ (refused 15 run) _ (λ n. refl)
      (λ e. rung P _ (refused 7 run) _ (λ n. refl)
      (λ e. rung P _ (refused 8 run) _ (λ n. refl)
      (λ e. rung P _ (refused 15 run) _ (λ n. refl)
      (λ e. rung P _ (refused 5 run) _ (λ n. refl) (λ e n. absurd (n accepted_ok))))))

  pub receive_refused : (a : ℕ) (posts : List ℕ) (m : Message)
      → (Accepted (receive_of t run a posts m).answer → ⊥) → (receive_of t run a posts m).run ≡ run
  unfolding receive_of
  receive_refused a posts m =
      rung (Returns {A = RunOutcome} (λ s. s.answer) (λ s. s.run) run) _ (refused 32 run) _ (λ n. refl) (λ e. received_refused a posts m)

-- ---- what an accepted call does
-- a call of an action whose processes were ready moved them to their posts
record Moved (t : List ℕ) (run : ProgramGraphRun) (a : ℕ) (posts : List ℕ) (vars : List Slot) (clocks : List ℕ)
    (after : ProgramGraphRun) : Type 0 where
  fits : fits_table t run ≡ true
  ready : AllPass t run a posts clocks
  same : after ≡ moved_to run posts vars clocks

module _ {t : List ℕ} {run : ProgramGraphRun} {a : ℕ} {posts : List ℕ} {vars : List Slot} {clocks : List ℕ} {after : ProgramGraphRun}
    (m : Moved t run a posts vars clocks after) where
  -- each process is at its post
  at_posts : Sized run → (p : ℕ) → p < run.processes → get_or after.places p 0 ≡ get_or posts p 0
  at_posts z p l =
      ap (λ (r : ProgramGraphRun). get_or r.places p 0) m.same
      ∙ placed_at run.places posts run.processes p l (places_room t run m.fits z)

  -- whose invariants hold
  holding : Sized run → Holding t after
  holding z =
      subst (λ (r : ProgramGraphRun). Holding t r) (sym m.same)
      (λ p l.
      subst (λ (x : ℕ). InvariantsAt t clocks x) (sym (placed_at run.places posts run.processes p l (places_room t run m.fits z)))
      (m.ready p l).1.invariants)

  -- the variables and the clocks are these
  its_vars : after.vars ≡ vars
  its_vars = ap (λ (r : ProgramGraphRun). r.vars) m.same

  its_clocks : after.times ≡ clocks
  its_clocks = ap (λ (r : ProgramGraphRun). r.times) m.same

-- ---- a step
module _ (t : List ℕ) (run : ProgramGraphRun) (posts : List ℕ) (word : ℕ) where
  -- an accepted step by EPSILON
  autonomous_moved : Accepted (transition_of t run epsilon posts word).answer
      → Moved t run epsilon posts run.vars run.times (transition_of t run epsilon posts word).run
  unfolding transition_of step_of autonomous_of
  autonomous_moved =
      let P : RunOutcome → Type 0 = λ s. Accepted s.answer → Moved t run epsilon posts run.vars run.times s.run in
      rung P (fits_table t run) (refused 32 run) _ not_ok
      (λ f. rung P _ (refused 7 run) _ not_ok
      (λ o. rung P _ (refused 3 run) _ not_ok
      (λ k. rung P (ready_still t run epsilon posts) (refused 8 run) _ not_ok
      (λ r e. record { fits = f; ready = (all_pass t run posts epsilon run.times).0 r; same = refl }))))

  -- an accepted step by another action
  plain_moved : (a : ℕ) → (a ≡ epsilon → ⊥) → Accepted (transition_of t run a posts word).answer
      → PlainAsked t run a posts
      × Moved t run a posts (effected_of t a run.vars word).vars (clocks_after t a run.times) (transition_of t run a posts word).run
  unfolding transition_of step_of acted_of plain_of
  plain_moved a n =
      let P : RunOutcome → Type 0
      = λ s. Accepted s.answer
      → PlainAsked t run a posts × Moved t run a posts (effected_of t a run.vars word).vars (clocks_after t a run.times) s.run in
      rung P (fits_table t run) (refused 32 run) _ not_ok
      (λ f. rung P _ (refused 7 run) _ not_ok
      (λ o. rung P _ (refused 3 run) _ not_ok
      (λ k. either_way P (eqb a epsilon) _ _ (λ e. absurd (n (eqb-true _ _ e)))
      (λ x. rung P _ (refused 1 run) _ not_ok
      (λ l. rung P _ (refused 13 run) _ not_ok
      (λ c. rung P _ (refused 8 run) _ not_ok
      (λ r. rung P _ (refused 26 run) _ not_ok
      (λ v e. (
        record { step = step_asked t run posts f o k; action = ltb-true _ _ l; plain = eqb-true _ _ c },
        record { fits = f; ready = (all_pass t run posts a (clocks_after t a run.times)).0 r; same = refl },
      )))))))))

  -- an accepted step, by whichever action
  step_moved : (a : ℕ) → Accepted (transition_of t run a posts word).answer
      → (vars : List Slot) × (clocks : List ℕ) × Moved t run a posts vars clocks (transition_of t run a posts word).run
  step_moved a = by (ℕ_discrete a epsilon)
    where
      by : Dec (a ≡ epsilon) → Accepted (transition_of t run a posts word).answer
          → (vars : List Slot) × (clocks : List ℕ) × Moved t run a posts vars clocks (transition_of t run a posts word).run
      by (yes q) = rw q (λ e. (run.vars, run.times, autonomous_moved e))
      by (no q) = λ e. ((effected_of t a run.vars word).vars, clocks_after t a run.times, (plain_moved a q e).1)

  -- After an accepted step each process is at its post.
  pub step_moves : (a : ℕ) → Accepted (transition_of t run a posts word).answer → Sized run
      → (p : ℕ) → p < run.processes → get_or (transition_of t run a posts word).run.places p 0 ≡ get_or posts p 0
  step_moves a e = at_posts (step_moved a e).2

  -- After an accepted step the invariants of every occupied location hold.
  pub step_holds : (a : ℕ) → Accepted (transition_of t run a posts word).answer → Sized run → Holding t (transition_of t run a posts word).run
  step_holds a e = holding (step_moved a e).2

  -- After an accepted step by EPSILON every variable and every clock is as before.
  pub autonomous_still : Accepted (transition_of t run epsilon posts word).answer
      → ((transition_of t run epsilon posts word).run.vars ≡ run.vars) × ((transition_of t run epsilon posts word).run.times ≡ run.times)
  autonomous_still e = (its_vars (autonomous_moved e), its_clocks (autonomous_moved e))

  -- After an accepted plain step each clock that the action resets is 0.
  pub plain_resets : (a : ℕ) → (a ≡ epsilon → ⊥) → Accepted (transition_of t run a posts word).answer → Sized run
      → (i : ℕ) → i < reset_count t a → get_or (transition_of t run a posts word).run.times (reset_at t a i) 0 ≡ 0
  plain_resets a n e z i l =
      let q : PlainAsked t run a posts = (plain_moved a n e).0 in
      let s : Sound t = (fitting t run q.step.fits).0 in
      let known : reset_at t a i < clock_count t = (s.action a q.action).resets.clock i l in
      ap (λ (x : List ℕ). get_or x (reset_at t a i) 0) (its_clocks (plain_moved a n e).1)
      ∙ reset_at_lem t a run.times (reset_count t a) i l (omega (arith, s.counts.clocks, z.times))

  -- After an accepted plain step each other clock is as before.
  pub plain_other_clock : (a : ℕ) → (a ≡ epsilon → ⊥) → Accepted (transition_of t run a posts word).answer
      → (c : ℕ) → ((i : ℕ) → i < reset_count t a → reset_at t a i ≡ c → ⊥)
      → get_or (transition_of t run a posts word).run.times c 0 ≡ get_or run.times c 0
  plain_other_clock a n e c none =
      ap (λ (x : List ℕ). get_or x c 0) (its_clocks (plain_moved a n e).1) ∙ reset_other t a run.times (reset_count t a) c none

  -- After an accepted plain step each variable that no effect assigns is as before.
  pub plain_other_variable : (a : ℕ) → (a ≡ epsilon → ⊥) → Accepted (transition_of t run a posts word).answer
      → (v : ℕ) → ((e : ℕ) → e < effect_count t a → effect_var t a e ≡ v → ⊥)
      → get_or (transition_of t run a posts word).run.vars v blank ≡ get_or run.vars v blank
  plain_other_variable a n e v none =
      ap (λ (x : List Slot). get_or x v blank) (its_vars (plain_moved a n e).1) ∙ effects_other t a _ (effect_count t a) v none

-- ---- a send
module _ (t : List ℕ) (run : ProgramGraphRun) (a : ℕ) (posts : List ℕ) (word : ℕ) where
  -- what an accepted send passed, its message, and the run after it
  record Said (sent : Sent) : Type 0 where
    kind : is_kind t a send_kind ≡ true
    fit : (spoken_of t a run.vars word).fits ≡ true
    message : sent.message ≡ message_of (spoken_of t a run.vars word).values (effect_count t a)
    moved : Moved t run a posts run.vars run.times sent.run

  -- an accepted send
  send_moved : Accepted (send_of t run a posts word).answer → Said (send_of t run a posts word)
  unfolding send_of sent_of said_of
  send_moved =
      let P : Sent → Type 0 = λ s. Accepted s.answer → Said s in
      rung P (fits_table t run) (refused_send 32 run) (sent_of t run a posts word) not_ok
      (λ f. rung P _ (refused_send 14 run) _ not_ok
      (λ n. rung P _ (refused_send 7 run) _ not_ok
      (λ o. rung P _ (refused_send 8 run) _ not_ok
      (λ r. rung P _ (refused_send 14 run) _ not_ok
      (λ k. rung P _ (refused_send 26 run) _ not_ok
      (λ v e.
      record {
        kind = k;
        fit = v;
        message = refl;
        moved = record { fits = f; ready = (all_pass t run posts a run.times).0 r; same = refl };
      }))))))

  -- After an accepted send each process is at its post.
  pub send_moves : Accepted (send_of t run a posts word).answer → Sized run
      → (p : ℕ) → p < run.processes → get_or (send_of t run a posts word).run.places p 0 ≡ get_or posts p 0
  send_moves e = at_posts (send_moved e).moved

  -- After an accepted send the invariants of every occupied location hold.
  pub send_holds : Accepted (send_of t run a posts word).answer → Sized run → Holding t (send_of t run a posts word).run
  send_holds e = holding (send_moved e).moved

  -- After an accepted send every variable and every clock is as before.
  pub send_still : Accepted (send_of t run a posts word).answer
      → ((send_of t run a posts word).run.vars ≡ run.vars) × ((send_of t run a posts word).run.times ≡ run.times)
  send_still e = (its_vars (send_moved e).moved, its_clocks (send_moved e).moved)

  -- The message of an accepted send has a value for each expression: the expression's on the variables as they are.
  pub send_says : Accepted (send_of t run a posts word).answer
      → ((send_of t run a posts word).message.count ≡ effect_count t a)
      × ((e : ℕ) → e < effect_count t a
      → (turn t a run.vars (unsaid word) e).value ≡ Some (get_or (send_of t run a posts word).message.values e blank).value)
  send_says h =
      let q = send_moved h in
      let few : effect_count t a ≤ message_room
      = (((fitting t run q.moved.fits).0.action a (ltb-true _ _ (and_first _ _ q.kind))).send
      (eqb-true _ _ (and_rest _ _ q.kind))).few in (
        ap (λ (m : Message). m.count) q.message,
        λ e l. (said t a run.vars (unsaid word) (effect_count t a) q.fit (omega arith)).1 e l
            ∙ ap (λ (m : Message). Some (get_or m.values e blank).value) (sym q.message),
      )

-- ---- a receive
module _ (t : List ℕ) (run : ProgramGraphRun) (a : ℕ) (posts : List ℕ) (m : Message) where
  -- an accepted receive
  receive_moved : Accepted (receive_of t run a posts m).answer
      → (is_kind t a receive_kind ≡ true) × Moved t run a posts (taken_of t a m run.vars) run.times (receive_of t run a posts m).run
  unfolding receive_of received_of heard_of
  receive_moved =
      let P : RunOutcome → Type 0
      = λ s. Accepted s.answer → (is_kind t a receive_kind ≡ true) × Moved t run a posts (taken_of t a m run.vars) run.times s.run in
      rung P (fits_table t run) (refused 32 run) _ not_ok
      (λ f. rung P _ (refused 15 run) _ not_ok
      (λ n. rung P _ (refused 7 run) _ not_ok
      (λ o. rung P _ (refused 8 run) _ not_ok
      (λ r. rung P _ (refused 15 run) _ not_ok
      (λ k. rung P _ (refused 5 run) _ not_ok
      (λ v e. (k, record { fits = f; ready = (all_pass t run posts a run.times).0 r; same = refl })))))))

  -- After an accepted receive each process is at its post.
  pub receive_moves : Accepted (receive_of t run a posts m).answer → Sized run
      → (p : ℕ) → p < run.processes → get_or (receive_of t run a posts m).run.places p 0 ≡ get_or posts p 0
  receive_moves e = at_posts (receive_moved e).1

  -- After an accepted receive the invariants of every occupied location hold.
  pub receive_holds : Accepted (receive_of t run a posts m).answer → Sized run → Holding t (receive_of t run a posts m).run
  receive_holds e = holding (receive_moved e).1

  -- After an accepted receive every clock is as before.
  pub receive_clocks : Accepted (receive_of t run a posts m).answer → (receive_of t run a posts m).run.times ≡ run.times
  receive_clocks e = its_clocks (receive_moved e).1

  -- After an accepted receive each variable that takes no value is as before.
  pub receive_other_variable : Accepted (receive_of t run a posts m).answer
      → (v : ℕ) → ((e : ℕ) → e < effect_count t a → effect_var t a e ≡ v → ⊥)
      → get_or (receive_of t run a posts m).run.vars v blank ≡ get_or run.vars v blank
  receive_other_variable e v none =
      ap (λ (x : List Slot). get_or x v blank) (its_vars (receive_moved e).1) ∙ taken_kept t a m run.vars (effect_count t a) v none

  -- After an accepted receive each other variable has its value of the message: the later one where it takes two.
  pub receive_target : Accepted (receive_of t run a posts m).answer → Sized run
      → (e : ℕ) → e < effect_count t a → ((k : ℕ) → e < k → k < effect_count t a → effect_var t a k ≡ effect_var t a e → ⊥)
      → get_or (receive_of t run a posts m).run.vars (effect_var t a e) blank ≡ get_or m.values e blank
  receive_target h z e l last =
      let moved = receive_moved h in
      let s : Sound t = (fitting t run moved.1.fits).0 in
      let known : effect_var t a e < variable_count t
      = ((s.action a (ltb-true _ _ (and_first _ _ moved.0))).receive (eqb-true _ _ (and_rest _ _ moved.0))).var e l in
      ap (λ (x : List Slot). get_or x (effect_var t a e) blank) (its_vars moved.1)
      ∙ taken_last t a m run.vars (effect_count t a) e (effect_var t a e) l refl last (omega (arith, s.counts.variables, z.vars))

-- ---- a wait
module _ (t : List ℕ) (run : ProgramGraphRun) (delta : ℕ) where
  -- what an accepted wait passed, and the run after it
  record Ended (after : ProgramGraphRun) : Type 0 where
    fits : fits_table t run ≡ true
    counted : wait_fits run delta ≡ true
    held : wait_holds t run delta ≡ true
    same : after ≡ later run delta

  waited : Accepted (wait_of t run delta).answer → Ended (wait_of t run delta).run
  unfolding wait_of waited_of
  waited =
      let P : RunOutcome → Type 0 = λ s. Accepted s.answer → Ended s.run in
      rung P (fits_table t run) (refused 32 run) _ not_ok
      (λ f. rung P _ (refused 26 run) _ not_ok
      (λ c. rung P _ (refused 9 run) _ not_ok
      (λ h e. record { fits = f; counted = c; held = h; same = refl })))

  -- the invariants of every occupied location hold at the end
  ends : wait_holds t run delta ≡ true → Holding t (later run delta)
  unfolding place_holds
  ends h p l =
      invariant_at t (shifted_below run.times delta run.clocks) (get_or run.places p 0)
      (all_at (place_holds t run.places (shifted_below run.times delta run.clocks)) run.processes p h l)

  -- On a run that fits its table a wait is accepted exactly when no clock passes last_time and every invariant holds at its end.
  pub wait_exactly : fits_table t run ≡ true
      → (Accepted (wait_of t run delta).answer)
      ↔ (((c : ℕ) → c < run.clocks → get_or run.times c 0 + delta ≤ last_time) × Holding t (later run delta))
  unfolding wait_of waited_of place_holds
  wait_exactly f = (
    λ e. (λ c l. fits_at run.times delta run.clocks c (waited e).counted l, ends (waited e).held),
    λ q. is_ok (ap (λ (s : RunOutcome). s.answer)
        (sym (passed _ f
        (passed _ (all_from (clock_fits run.times delta) run.clocks (λ c l. clock_fits_lem run.times delta c (q.0 c l)))
        (passed _
        (all_from (place_holds t run.places (shifted_below run.times delta run.clocks)) run.processes
        (λ p l. invariants_from t (shifted_below run.times delta run.clocks) (get_or run.places p 0) (q.1 p l)))
        refl))))),
  )

  -- An accepted wait moves every clock by the delta.
  pub wait_moves : Accepted (wait_of t run delta).answer → Sized run
      → (c : ℕ) → c < clock_count t → get_or (wait_of t run delta).run.times c 0 ≡ get_or run.times c 0 + delta
  wait_moves e z c l =
      let w = waited e in
      ap (λ (r : ProgramGraphRun). get_or r.times c 0) w.same
      ∙ shifted_at run.times delta run.clocks c (omega (arith, same_clocks t run (fitting t run w.fits).1))
      (clocks_room t run w.fits z)

  -- After an accepted wait every process is where it was and every variable as before.
  pub wait_still : Accepted (wait_of t run delta).answer
      → ((wait_of t run delta).run.places ≡ run.places) × ((wait_of t run delta).run.vars ≡ run.vars)
  wait_still e = (ap (λ (r : ProgramGraphRun). r.places) (waited e).same, ap (λ (r : ProgramGraphRun). r.vars) (waited e).same)

  -- At the end of an accepted wait the invariants of every occupied location hold.
  pub wait_holds_lem : Accepted (wait_of t run delta).answer → Holding t (wait_of t run delta).run
  wait_holds_lem e = subst (λ (r : ProgramGraphRun). Holding t r) (sym (waited e).same) (ends (waited e).held)

  -- If they hold before an accepted wait, they hold at every instant of it.
  pub wait_holds_throughout : Accepted (wait_of t run delta).answer → Sized run → Holding t run → (d : ℕ) → d ≤ delta → Holding t (later run d)
  wait_holds_throughout e z start d m p l i k =
      let w = waited e in
      let formed = fitting t run w.fits in
      let place : ℕ = get_or run.places p 0 in
      let clock : ℕ = clock_of t (invariant_group place) i in
      let time : ℕ = get_or run.times clock 0 in
      let known : clock < run.clocks
      = omega (arith, same_clocks t run formed.1, (formed.0.invariants place (places_below t run formed.1 p l)).clock i k) in
      let moved : (x : ℕ) → get_or (shifted_below run.times x run.clocks) clock 0 ≡ time + x
      = λ x. shifted_at run.times x run.clocks clock known (clocks_room t run w.fits z) in
      subst (λ (x : ℕ). in_range (limit_range t (invariant_group place) i) x ≡ true) (sym (moved d))
      (between (limit_range t (invariant_group place) i) time (time + d) (time + delta) (omega arith) (omega arith)
      (start p l i k)
      (subst (λ (x : ℕ). in_range (limit_range t (invariant_group place) i) x ≡ true) (moved delta) (ends w.held p l i k)))
