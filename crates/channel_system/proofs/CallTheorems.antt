-- What a step and a wait of a system change, and what they leave.
use Rattle.graph_tables.specs.Answers.{Answer, admitted}
use Rattle.channel_system.specs.declared.answers.WaitError.{WaitError}
use Rattle.std.specs.declared.result.Result.{Result}
use Rattle.std.specs.Prelude.{Ok, Err, ⊤}
use Prim.Native.Nat.{ℕ, suc, ◌<◌, ◌≤◌}
use mathlib.Core.Path.{◌≡◌, refl, sym, ap, ◌∙◌}
use mathlib.Core.Bool.{Bool, true, false}
use mathlib.Core.List.{List, [], ◌∷◌}
use native.Mathlib.Decide.{dec_lt}
use native.Mathlib.Omega.{arith}
use lib.Dec.{eqb}
use lib.ListN.{length}
use borrow.Author.Tests.{eq-eqb, lt-ltb}
use Rattle.laws.proofs.Ladder.{passed, stopped, rung}
use Rattle.laws.proofs.Tests.{never}
use Rattle.graph_tables.specs.Refusals.{refusal}
use Rattle.graph_tables.specs.declared.refusals.Refusal.{Refusal}
use Rattle.graph_checks.specs.Checks.{refused_by}
use Rattle.run_steps.specs.Messages.{no_message}
use Rattle.program_graph.specs.declared.record.ProgramGraphRun.{ProgramGraphRun}
use Rattle.program_graph.specs.Running.{refused}
use Rattle.program_graph.specs.Outcomes.{RunOutcome}
use Rattle.program_graph.specs.Facts.{Accepted}
use Rattle.program_graph.specs.Running.{ready_still}
use Rattle.program_graph.specs.Messaging.{received_of}
use Rattle.program_graph.proofs.AnswerLaws.{accepted_ok, not_ok}
use Rattle.program_graph.proofs.RunReady.{ready_exactly}
use Rattle.program_graph.proofs.SpokenLaws.{receive_is}
use Rattle.queues.specs.Queues.{stored_of, queue_of}
use Rattle.queues.proofs.Theorems.{none_stored}
use Rattle.system_tables.specs.Sizes.{graph_room, channel_room, empty_message}
use Rattle.system_tables.specs.declared.ids.Message.{Message}
use Rattle.system_tables.specs.declared.ids.Message.TheVariants.{Send, Receive, ProbeEmptyQueue, ProbeFullQueue}
use Rattle.system_tables.specs.declared.ids.Communication.{Communication}
use Rattle.system_tables.specs.declared.ids.Communication.TheVariants.{Plain, On}
use Rattle.system_tables.specs.Words.{graph_count, capacity_of, graph_part, message_word}
use Rattle.system_tables.specs.Sound.{SystemSound}
use Rattle.system_tables.proofs.CommunicationLaws.{message_says}
use Rattle.system_state.specs.Words.{time_in, run_part, queue_part}
use Rattle.system_state.specs.Fits.{StateSound}
use Rattle.channel_system.specs.Channels.{receive_test}
use Rattle.channel_system.specs.Steps.{system_fits, locations_of, run_of, ran_to, stores, sent_into, oldest_in, taken_from, Moved}
use Rattle.channel_system.specs.Steps.{no_event, event_of, refused_step, receive_step, channel_answer, open_if, told_if, step_as}
use Rattle.channel_system.specs.Steps.{spoken_by, moved_of, transition_of}
use Rattle.channel_system.specs.Waits.{later_state, Passed, refused_wait, passed_of, wait_of}
use Rattle.channel_system.specs.Facts.{Speaks}
use Rattle.channel_system.specs.Told.{waited_number, AskedRightly, GuardFalse, run_by, event_by}
use Rattle.channel_system.specs.declared.answers.Event.{Event}
use Rattle.channel_system.proofs.FittingLaws.{fits_table_lem, fits_state}
use Rattle.channel_system.proofs.SpokenLaws.{spoken_some}
use Rattle.channel_system.proofs.StepCases.{sent_on, SendFound, InEach, step_cases}
use Rattle.channel_system.proofs.WaitCases.{WaitFound, wait_leaves, wait_cases}
use Rattle.channel_system.proofs.SoundCalls.{plain_run, plain_queues, probe_run, probe_queues, send_run}
use Rattle.channel_system.proofs.SoundCalls.{send_queue, sink_queues, receive_run, receive_queue}

-- what is so of the refusal with 32, and of the step of a table and a state that fit, is so of the public step
public_step : (P : Moved → Type 0) (t s : List ℕ) (g o a : ℕ) (posts : List ℕ) (word : ℕ) → P (refused_step 32 g s)
    → ((fits : system_fits t s ≡ true) → P (moved_of t s g o a posts word)) → P (transition_of t s g o a posts word)
unfolding transition_of
public_step P t s g o a posts word bad good = rung P _ (refused_step 32 g s) _ bad good

public_wait : (P : Passed → Type 0) (t s : List ℕ) (delta : ℕ) → P (refused_wait (Err (WaitError.Refused (refusal 32))) s)
    → ((fits : system_fits t s ≡ true) → P (passed_of t s delta)) → P (wait_of t s delta)
unfolding wait_of
public_wait P t s delta bad good = rung P _ (refused_wait (Err (WaitError.Refused (refusal 32))) s) _ bad good

-- ---- a step
module _ (t s : List ℕ) (g o a : ℕ) (posts : List ℕ) (word : ℕ) where
  -- a step by its cases, where refusals leave the state
  cases : (P : Moved → Type 0) → ((r : Refusal) → P (record { told = record { answer = Err r; event = no_event g }; state = s }))
      → ((sound : SystemSound t) → StateSound t s → InEach t s g a posts word P) → P (transition_of t s g o a posts word)
  cases P bad good =
      public_step P t s g o a posts word (bad (refusal 32))
      (λ fits. step_cases t s g a posts word P (good (fits_table_lem t s fits) (fits_state t s fits)) (fits_table_lem t s fits) o)

  -- A refused step leaves every word of the state, and has no event.
  pub step_refused : (Accepted (transition_of t s g o a posts word).told.answer → ⊥)
      → ((transition_of t s g o a posts word).state ≡ s) × ((transition_of t s g o a posts word).told.event ≡ no_event g)
  step_refused =
      cases (λ (m : Moved). (Accepted m.told.answer → ⊥) → (m.state ≡ s) × (m.told.event ≡ no_event g)) (λ r n. (refl, refl))
      (λ sound h. record {
        refusal = λ r n k. (refl, refl);
        plain = λ f n. absurd (n accepted_ok);
        send = λ q f n. absurd (n accepted_ok);
        receive = λ q f n. absurd (n accepted_ok);
        probe = λ m q f n. absurd (n accepted_ok);
      })

  abbrev own : Communication → ProgramGraphRun
  own c = run_by t s g a posts word c

  abbrev event : Communication → Event
  event c = event_by t s g a posts word c

  -- An accepted step leaves in graph g the run that the graph's own call gives, and returns its event.
  pub step_accepted : Accepted (transition_of t s g o a posts word).told.answer
      → (run_of (transition_of t s g o a posts word).state g ≡ run_by t s g a posts word (spoken_by t g a))
      × ((transition_of t s g o a posts word).told.event ≡ event_by t s g a posts word (spoken_by t g a))
  step_accepted =
      cases
      (λ (m : Moved). Accepted m.told.answer → (run_of m.state g ≡ own (spoken_by t g a)) × (m.told.event ≡ event (spoken_by t g a)))
      (λ r. not_ok)
      (λ sound h. record {
        refusal = λ r n. not_ok;
        plain = λ f k. told (sym f.spoken) (plain_run sound h g a posts word f).reads refl;
        send = λ q f k. told (sym f.found.spoken) (send_run sound h g a posts word q f).reads refl;
        receive = λ q f k. told (sym f.found.spoken) (receive_run sound h g a posts word q f).reads refl;
        probe = λ m q f k. probed m q f.probe (sym f.found.spoken) (probe_run sound h g a posts word m q f).reads;
      })
    where
      told : {c : Communication} {run : ProgramGraphRun} {e : Event} → c ≡ spoken_by t g a → run ≡ own c → e ≡ event c
          → (run ≡ own (spoken_by t g a)) × (e ≡ event (spoken_by t g a))
      told same left e = (left ∙ ap own same, e ∙ ap event same)

      probed : (m : Message) (q : ℕ) → empty_message ≤ message_word m → On m (record { 0 = q }) ≡ spoken_by t g a
          → {run : ProgramGraphRun} → run ≡ (sent_on t s g a posts word).run
          → (run ≡ own (spoken_by t g a)) × (event_of g m q no_message ≡ event (spoken_by t g a))
      probed Send q few same left = absurd (omega arith)
      probed Receive q few same left = absurd (omega arith)
      probed ProbeEmptyQueue q few same left = told same left refl
      probed ProbeFullQueue q few same left = told same left refl

  -- A step of graph g leaves every word of every other graph's run, and the time.
  pub step_other_runs : (f : ℕ) → f < graph_room → (f ≡ g → ⊥) → run_part (transition_of t s g o a posts word).state f ≡ run_part s f
  step_other_runs f l other =
      cases (λ (m : Moved). run_part m.state f ≡ run_part s f) (λ r. refl)
      (λ sound h. record {
        refusal = λ r n. refl;
        plain = λ e. (plain_run sound h g a posts word e).other f l other;
        send = λ q e. (send_run sound h g a posts word q e).other f l other;
        receive = λ q e. (receive_run sound h g a posts word q e).other f l other;
        probe = λ m q e. (probe_run sound h g a posts word m q e).other f l other;
      })

  pub step_time : time_in (transition_of t s g o a posts word).state ≡ time_in s
  step_time =
      cases (λ (m : Moved). time_in m.state ≡ time_in s) (λ r. refl)
      (λ sound h. record {
        refusal = λ r n. refl;
        plain = λ e. (plain_run sound h g a posts word e).time;
        send = λ q e. (send_run sound h g a posts word q e).time;
        receive = λ q e. (receive_run sound h g a posts word q e).time;
        probe = λ m q e. (probe_run sound h g a posts word m q e).time;
      })

  -- A step leaves every word of the queue of channel p, unless its action sends into p or receives from p.
  pub step_queues : (p : ℕ) → p < channel_room → (spoken_by t g a ≡ On Send (record { 0 = p }) → ⊥)
      → (spoken_by t g a ≡ On Receive (record { 0 = p }) → ⊥) → queue_part (transition_of t s g o a posts word).state p ≡ queue_part s p
  step_queues p l send receive =
      cases (λ (m : Moved). queue_part m.state p ≡ queue_part s p) (λ r. refl)
      (λ sound h. record {
        refusal = λ r n. refl;
        plain = λ e. plain_queues sound h g a posts word e p l;
        send = λ q e. into sound h q e (stores (capacity_of t q)) refl;
        receive = λ q e. (receive_queue sound h g a posts word q e).other p l
            (λ same. receive (e.found.spoken ∙ ap (λ (k : ℕ). On Receive (record { 0 = k })) (sym same)));
        probe = λ m q e. probe_queues sound h g a posts word m q e p l;
      })
    where
      into : (sound : SystemSound t) (h : StateSound t s) (q : ℕ) (e : SendFound t s g a posts word q) (b : Bool)
          → stores (capacity_of t q) ≡ b
          → queue_part (sent_into t (ran_to t s g (sent_on t s g a posts word).run) q (sent_on t s g a posts word).message) p ≡ queue_part s p
      into sound h q e true y =
          (send_queue sound h g a posts word q e y).other p l
          (λ same. send (e.found.spoken ∙ ap (λ (k : ℕ). On Send (record { 0 = k })) (sym same)))
      into sound h q e false n = sink_queues sound h g a posts word q e n p l

  -- So a plain step, a step by EPSILON and a probe leave every queue.
  pub plain_step_queues : spoken_by t g a ≡ Plain → (p : ℕ) → p < channel_room
      → queue_part (transition_of t s g o a posts word).state p ≡ queue_part s p
  plain_step_queues plain p l =
      step_queues p l (λ e. apart Send (sym plain ∙ e)) (λ e. apart Receive (sym plain ∙ e))
    where
      apart : (m : Message) → Plain ≡ On m (record { 0 = p }) → ⊥
      apart m e = let z : ◌≡◌ {A = ℕ} 0 1 = cc in omega arith

  pub probe_step_queues : (m : Message) (q : ℕ) → spoken_by t g a ≡ On m (record { 0 = q }) → (m ≡ Send → ⊥) → (m ≡ Receive → ⊥)
      → (p : ℕ) → p < channel_room → queue_part (transition_of t s g o a posts word).state p ≡ queue_part s p
  probe_step_queues m q spoken send receive p l =
      step_queues p l (λ e. send (kind Send (sym spoken ∙ e))) (λ e. receive (kind Receive (sym spoken ∙ e)))
    where
      kind : (n : Message) → On m (record { 0 = q }) ≡ On n (record { 0 = p }) → m ≡ n
      kind n e = cc

-- ---- a wait
module _ (t s : List ℕ) (delta : ℕ) where
  -- a wait by its cases
  waits : (P : Passed → Type 0) → ((w : Result ⊤ WaitError) → (waited_number w ≡ 0 → ⊥) → P (record { answer = w; state = s }))
      → (SystemSound t → StateSound t s → WaitFound t s delta → P (record { answer = Ok tt; state = later_state t s delta }))
      → P (wait_of t s delta)
  waits P bad good =
      public_wait P t s delta (bad (Err (WaitError.Refused (refusal 32))) (λ e. omega arith))
      (λ fits. wait_cases P t s delta (bad (Err (WaitError.Refused (refusal 26))) (λ e. omega arith))
      (λ g. bad (Err (WaitError.Invariant (record { 0 = g }))) (λ e. omega arith))
      (good (fits_table_lem t s fits) (fits_state t s fits)))

  -- A refused wait leaves every word of the state.
  pub wait_refused : (waited_number (wait_of t s delta).answer ≡ 0 → ⊥) → (wait_of t s delta).state ≡ s
  wait_refused =
      waits (λ (p : Passed). (waited_number p.answer ≡ 0 → ⊥) → p.state ≡ s) (λ w n k. refl) (λ sound h f n. absurd (n refl))

  -- A wait leaves every word of every queue.
  pub wait_queues : (q : ℕ) → q < channel_room → queue_part (wait_of t s delta).state q ≡ queue_part s q
  wait_queues q l =
      waits (λ (p : Passed). queue_part p.state q ≡ queue_part s q) (λ w n. refl) (λ sound h f. (wait_leaves sound h f).queue q l)

  -- A wait leaves every process where it was, and every variable.
  pub wait_places : (g : ℕ) → g < graph_count t
      → ((run_of (wait_of t s delta).state g).places ≡ (run_of s g).places) × ((run_of (wait_of t s delta).state g).vars ≡ (run_of s g).vars)
  wait_places g l =
      waits
      (λ (p : Passed). ((run_of p.state g).places ≡ (run_of s g).places) × ((run_of p.state g).vars ≡ (run_of s g).vars))
      (λ w n. (refl, refl))
      (λ sound h f.
      let e = (wait_leaves sound h f).run g l in
      (ap (λ (x : ProgramGraphRun). x.places) e, ap (λ (x : ProgramGraphRun). x.vars) e))

-- ---- a receive whose guard is false
locations_length : (posts : List ℕ) → length (locations_of posts) ≡ length posts
unfolding locations_of
locations_length [] = refl
locations_length (p ∷ posts) = ap suc (locations_length posts)

module _ (t s : List ℕ) (fits : system_fits t s ≡ true) (g a q : ℕ) (posts : List ℕ) (word : ℕ) (speaks : Speaks t g a Receive q)
    (asked : AskedRightly t s g posts) (some : queue_of (queue_part s q) ≡ [] → ⊥) (guard : GuardFalse t s g a posts) where
  abbrev sound : SystemSound t
  sound = fits_table_lem t s fits

  abbrev G : List ℕ
  G = graph_part t g

  abbrev run : ProgramGraphRun
  run = run_of s g

  abbrev heard : RunOutcome
  heard = received_of G run a (locations_of posts) (oldest_in t s q)

  -- no process would move
  not_ready : ready_still G run a (locations_of posts) ≡ false
  not_ready = by (ready_still G run a (locations_of posts)) refl
    where
      by : (b : Bool) → ready_still G run a (locations_of posts) ≡ b → ready_still G run a (locations_of posts) ≡ false
      by true e =
          let pass = (ready_exactly G run.vars run.times run.times run.places run.processes a (locations_of posts)).0 e
          guard.process guard.here in
          let k = pass.1 in
          never (sym (guard.false_guard pass.0 k.known k.from k.by k.to) ∙ k.guard)
      by false e = e

  stored : 0 < stored_of (queue_part s q)
  stored = by (dec_lt 0 (stored_of (queue_part s q)))
    where
      by : Dec (0 < stored_of (queue_part s q)) → 0 < stored_of (queue_part s q)
      by (yes l) = l
      by (no n) = absurd (some (none_stored (queue_part s q) (omega arith)))

  -- so its graph answers 8
  unsatisfied : heard.answer ≡ refused_by 8
  unsatisfied =
      let says = message_says (sound.communication g a asked.graph speaks.action) Receive (record { 0 = q }) speaks.word in
      let each : eqb (length (locations_of posts)) run.processes ≡ true = eq-eqb _ _ (locations_length posts ∙ asked.one_each) in
      ap (λ (r : RunOutcome). r.answer)
      (receive_is (sound.graph g asked.graph) run a (locations_of posts) speaks.action (oldest_in t s q) says.1.0
      ∙ sym (passed (refused 7 run) each (stopped (refused 8 run) _ not_ready)))

  spoken : spoken_by t g a ≡ On Receive (record { 0 = q })
  spoken = sym (spoken_some t g a speaks.action) ∙ speaks.word

  ready : channel_answer t s q Receive ≡ admitted
  unfolding receive_test
  ready = sym (passed (refused_by 21) (lt-ltb _ _ stored) refl)

  whole : transition_of t s g g a posts word ≡ refused_step 8 g s
  unfolding transition_of moved_of receive_step
  whole =
      sym (passed (refused_step 32 g s) fits
      (passed (refused_step 17 g s) (lt-ltb _ _ asked.graph)
      (passed (refused_step 18 g s) (eq-eqb g g refl)
      (passed (refused_step 19 g s) asked.own
      (sym
      (ap (step_as t s g a (locations_of posts) word) spoken
      ∙ ap (λ (d : Answer ⊤). open_if d g s (receive_step t s g a (locations_of posts) q)) ready
      ∙ ap (λ (d : Answer ⊤). told_if d g s (event_of g Receive q (oldest_in t s q)) (taken_from t (ran_to t s g heard.run) q))
      unsatisfied))))))

  -- Something is in the queue, and a receive is asked for while its guard is false: the answer is 8 (UnsatisfiedGuard), there is no
  -- event, and every word of the state is as it was. The message is still in the queue, for the next receive.
  pub receive_behind_guard :
      ((transition_of t s g g a posts word).told.answer ≡ refused_by 8) × ((transition_of t s g g a posts word).state ≡ s)
  receive_behind_guard = (ap (λ (m : Moved). m.told.answer) whole, ap (λ (m : Moved). m.state) whole)
