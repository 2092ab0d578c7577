-- A call on a run and on its words have one answer: variables that the table does not have make no difference, and come back as they were.
use Rattle.graph_tables.specs.Answers.{Answer}
use Rattle.std.specs.Prelude.{Err, ⊤}
use Prim.Native.Nat.{ℕ, ◌<◌, ◌≤◌}
use mathlib.Core.Path.{◌≡◌, refl, sym, ap, ◌∙◌, subst}
use mathlib.Core.Bool.{Bool, true, false, cond}
use mathlib.Core.List.{List}
use native.Mathlib.Omega.{arith}
use lib.ListN.{length, get_or}
use lib.Dec.{eqb}
use borrow.Author.Tests.{eqb-true, ltb-true}
use Rattle.laws.specs.Ladder.{unless}
use Rattle.laws.proofs.BelowLaws.{and_first, and_rest}
use Rattle.grammar.specs.Evaluation.{blank}
use Rattle.grammar.specs.declared.values.Slot.{Slot}
use Rattle.graph_tables.specs.Sizes.{variable_room, plain_kind, send_kind, receive_kind}
use Rattle.graph_tables.specs.Words.{variable_count, action_count, action_kind, effect_count, epsilon}
use Rattle.graph_tables.specs.Sound.{Sound}
use Rattle.graph_tables.specs.Refusals.{refusal}
use Rattle.graph_tables.specs.declared.handed.Message.{Message}
use Rattle.run_steps.specs.Steps.{effected_of, unchanged}
use Rattle.run_steps.specs.Messages.{taken_of, message_of}
use Rattle.run_steps.specs.declared.inner.messages.Speech.{Speech}
use Rattle.run_steps.proofs.StepLaws.{effects_length}
use Rattle.run_steps.proofs.MessageLaws.{taken_length}
use Rattle.run_steps.proofs.AgreeLaws.{Agree, ready_agree, spoken_agree, effected_fits, effected_agree, effected_past, taken_agree}
use Rattle.run_steps.proofs.AgreeLaws.{taken_past}
use Rattle.program_graph.specs.Running.{run_formed, autonomous_of, plain_of, acted_of, step_of, waited_of}
use Rattle.program_graph.specs.Messaging.{said_of, sent_of, heard_of, received_of}
use Rattle.program_graph.specs.Inner.{over_below, with_vars, over}
use Rattle.program_graph.specs.declared.record.ProgramGraphRun.{ProgramGraphRun}
use Rattle.program_graph.specs.Outcomes.{RunOutcome, Sent}
use Rattle.program_graph.proofs.StoredLaws.{over_is}
use Rattle.program_graph.proofs.LeaveLaws.{variables_same}

-- two ladders, rung by rung
one_rung : {A B : Type 0} (P : A → B → Type 0) (c : Bool) (x y : A) (u v : B) → P x u → (c ≡ true → P y v)
    → P (unless c x y) (unless c u v)
unfolding unless
one_rung P true x y u v h k = k refl
one_rung P false x y u v h k = h

both_rungs : {A B : Type 0} (P : A → B → Type 0) {b c : Bool} → b ≡ c → (x y : A) (u v : B) → P x u → (c ≡ true → P y v)
    → P (unless b x y) (unless c u v)
both_rungs P {c = c} e x y u v h k = subst (λ (b : Bool). P (unless b x y) (unless c u v)) (sym e) (one_rung P c x y u v h k)

both_conds : {A B : Type 0} (P : A → B → Type 0) (b : Bool) (x y : A) (u v : B) → P x u → P y v → P (cond b x y) (cond b u v)
both_conds P true x y u v h k = h
both_conds P false x y u v h k = k

-- an answer and a run, the one of a run with other variables, and the other of the run itself
pub record Same (run : ProgramGraphRun) (a b : Answer ⊤) (x y : ProgramGraphRun) : Type 0 where
  pub answer : a ≡ b
  pub back : over run x ≡ y

module _ (t : List ℕ) (run : ProgramGraphRun) (vs : List Slot) (sound : Sound t) (formed : run_formed t run ≡ true)
    (same : Agree (variable_count t) vs run.vars) (sized : length run.vars ≡ variable_room) (size : length vs ≡ variable_room) where
  count : run.variables ≡ variable_count t
  count = variables_same t run formed

  few : run.variables ≤ length run.vars
  few = omega (arith, count, sound.counts.variables)

  -- values that agree with others where the table has variables, and are the run's past them
  back : (vars values : List Slot) → length values ≡ length run.vars → Agree (variable_count t) vars values
      → ((v : ℕ) → variable_count t ≤ v → get_or values v blank ≡ get_or run.vars v blank)
      → over_below run.vars vars run.variables ≡ values
  back vars values long agree past =
      over_is run.vars vars run.variables values few long (λ v l. agree v (omega (arith, count)))
      (λ v l. past v (omega (arith, count)))

  still : over_below run.vars vs run.variables ≡ run.vars
  still = back vs run.vars refl same (λ v l. refl)

  abbrev other : ProgramGraphRun
  other = with_vars run vs

  -- a run with these parts
  abbrev made : List ℕ → List ℕ → List Slot → ProgramGraphRun
  made places times vars =
      record {
        places = places;
        vars = vars;
        times = times;
        processes = run.processes;
        variables = run.variables;
        clocks = run.clocks;
      }

  refused_same : (n : ℕ) → Same run (Err (refusal n)) (Err (refusal n)) other run
  refused_same n = record { answer = refl; back = ap (made run.places run.times) still }

  -- ---- steps
  abbrev Steps : RunOutcome → RunOutcome → Type 0
  Steps x y = Same run x.answer y.answer x.run y.run

  autonomous_same : (posts : List ℕ) → Steps (autonomous_of t other posts) (autonomous_of t run posts)
  unfolding autonomous_of
  autonomous_same posts =
      both_rungs Steps (ready_agree t sound vs run.vars same _ _ _ _ _ _) _ _ _ _ (refused_same 8)
      (λ e. record { answer = refl; back = ap (made _ _) still })

  plain_same : (a : ℕ) (posts : List ℕ) (word : ℕ) → a < action_count t → action_kind t a ≡ plain_kind
      → Steps (plain_of t other a posts word) (plain_of t run a posts word)
  unfolding plain_of
  plain_same a posts word known plain =
      both_rungs Steps (ready_agree t sound vs run.vars same _ _ _ _ _ _) _ _ _ _ (refused_same 8) (λ e.
      both_rungs Steps (effected_fits t sound vs run.vars same (size ∙ sym sized) a word known plain) _ _ _ _ (refused_same 26) (λ f.
      record {
        answer = refl;
        back =
            ap (made _ _)
            (back (effected_of t a vs word).vars (effected_of t a run.vars word).vars
            (effects_length t a (unchanged run.vars word) (effect_count t a))
            (effected_agree t sound vs run.vars same (size ∙ sym sized) a word known plain)
            (λ v l. effected_past t sound run.vars a word v known plain l));
      }))

  acted_same : (a : ℕ) (posts : List ℕ) (word : ℕ) → Steps (acted_of t other a posts word) (acted_of t run a posts word)
  unfolding acted_of
  acted_same a posts word =
      both_rungs Steps refl _ _ _ _ (refused_same 1) (λ e.
      both_rungs Steps refl _ _ _ _ (refused_same 13) (λ f.
      plain_same a posts word (ltb-true a (action_count t) e) (eqb-true (action_kind t a) plain_kind f)))

  pub step_same : (a : ℕ) (posts : List ℕ) (word : ℕ) → Steps (step_of t other a posts word) (step_of t run a posts word)
  unfolding step_of
  step_same a posts word =
      both_rungs Steps refl _ _ _ _ (refused_same 7) (λ e.
      both_rungs Steps refl _ _ _ _ (refused_same 3) (λ f.
      both_conds Steps (eqb a epsilon) _ _ _ _ (autonomous_same posts) (acted_same a posts word)))

  -- ---- waits
  abbrev Waits : RunOutcome → RunOutcome → Type 0
  Waits x y = Same run x.answer y.answer x.run y.run

  pub wait_same : (delta : ℕ) → Waits (waited_of t other delta) (waited_of t run delta)
  unfolding waited_of
  wait_same delta =
      both_rungs Waits refl _ _ _ _ (refused_same 26) (λ e.
      both_rungs Waits refl _ _ _ _ (refused_same 9) (λ f. record { answer = refl; back = ap (made _ _) still }))

  -- ---- messages
  pub record Sends (x y : Sent) : Type 0 where
    pub message : x.message ≡ y.message
    pub rest : Same run x.answer y.answer x.run y.run

  said_same : (a : ℕ) (posts : List ℕ) (word : ℕ) → a < action_count t → action_kind t a ≡ send_kind
      → Sends (said_of t other a posts word) (said_of t run a posts word)
  unfolding said_of
  said_same a posts word known send =
      let e = spoken_agree t sound vs run.vars same a word known send in
      both_rungs Sends (ap (λ (s : Speech). s.fits) e) _ _ _ _ (record { message = refl; rest = refused_same 26 }) (λ f.
      record {
        message = ap (λ (s : Speech). message_of s.values (effect_count t a)) e;
        rest = record { answer = refl; back = ap (made _ _) still };
      })

  pub send_same : (a : ℕ) (posts : List ℕ) (word : ℕ) → Sends (sent_of t other a posts word) (sent_of t run a posts word)
  unfolding sent_of
  send_same a posts word =
      both_rungs Sends refl _ _ _ _ (record { message = refl; rest = refused_same 14 }) (λ e.
      both_rungs Sends refl _ _ _ _ (record { message = refl; rest = refused_same 7 }) (λ f.
      both_rungs Sends (ready_agree t sound vs run.vars same _ _ _ _ _ _) _ _ _ _ (record { message = refl; rest = refused_same 8 })
      (λ g.
      both_rungs Sends refl _ _ _ _ (record { message = refl; rest = refused_same 14 }) (λ h.
      said_same a posts word (ltb-true a (action_count t) (and_first _ _ h)) (eqb-true (action_kind t a) send_kind (and_rest _ _ h))))))

  abbrev Receives : RunOutcome → RunOutcome → Type 0
  Receives x y = Same run x.answer y.answer x.run y.run

  heard_same : (a : ℕ) (posts : List ℕ) (m : Message) → a < action_count t → action_kind t a ≡ receive_kind
      → Receives (heard_of t other a posts m) (heard_of t run a posts m)
  unfolding heard_of
  heard_same a posts m known receive =
      both_rungs Receives refl _ _ _ _ (refused_same 5) (λ e.
      record {
        answer = refl;
        back =
            ap (made _ _)
            (back (taken_of t a m vs) (taken_of t a m run.vars) (taken_length t a m run.vars (effect_count t a))
            (taken_agree t vs run.vars same (size ∙ sym sized) a m) (λ v l. taken_past t sound run.vars a v m known receive l));
      })

  pub receive_same : (a : ℕ) (posts : List ℕ) (m : Message) → Receives (received_of t other a posts m) (received_of t run a posts m)
  unfolding received_of
  receive_same a posts m =
      both_rungs Receives refl _ _ _ _ (refused_same 15) (λ e.
      both_rungs Receives refl _ _ _ _ (refused_same 7) (λ f.
      both_rungs Receives (ready_agree t sound vs run.vars same _ _ _ _ _ _) _ _ _ _ (refused_same 8) (λ g.
      both_rungs Receives refl _ _ _ _ (refused_same 15) (λ h.
      heard_same a posts m (ltb-true a (action_count t) (and_first _ _ h)) (eqb-true (action_kind t a) receive_kind (and_rest _ _ h))))))
